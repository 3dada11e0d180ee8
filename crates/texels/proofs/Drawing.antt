-- Stretches drawn one after another are all texels, and the picture is the only buffer that has them all. Assumes nothing.
use mathlib.Core.Path.{◌≡◌, refl, ap, ap₂, ◌∙◌}
use mathlib.Core.Logic.{inl, inr, ⊎_elim}
use mathlib.Core.List.{List}
use Prim.Native.Nat.{ℕ, ◌+◌, ◌*◌, ◌-◌, ◌/◌, ◌%◌, ◌≤◌, ◌<◌, min}
use native.Mathlib.Omega.{arith}
use lib.ListN.{length, get_or}
use lib.Seq.{sets, length-sets}
use native.Mathlib.Nat.{mul-le-mul, mul-le-mul_left}
use Rattle.crn_format.specs.Grid.{blocks, little}
use Rattle.crn_format.specs.declared.Kind.{Kind}
use Rattle.crn_format.specs.Header.{block_bytes}
use Rattle.crn_blocks.proofs.Places.{below_or, place, beside, sets_in, sets-out, no_less, further}
use Rattle.bcn_rows.specs.Rows.{row_bytes, texel_of, row_of, texel_at}
use Rattle.bcn_rows.specs.declared.Row.{Row}
use Rattle.bcn_rows.specs.declared.Sixteen.{Sixteen}
use Rattle.bcn_rows.proofs.Laws.{row-byte, in_sixteen}
use Rattle.bcn_blocks.specs.Texels.{Texels}
use Rattle.bcn_format.specs.Picture.{texel_place, rgba}
use Rattle.bcn_format.specs.declared.Face.{Face}
use Rattle.texels.specs.Sheet.{In, Within, stretch, Drawn, Room, Part, Block, first, in_block, in_row}

-- ---- a byte lies in one texel only

module _ {s : Face} (narrow : 4 * s.width ≤ s.pitch) where
  pub one-texel : {x y x' y' k : ℕ} → In s x y → In s x' y' → Within s x y k → Within s x' y' k → (x ≡ x') × (y ≡ y')
  one-texel {x} {y} {x'} {y'} {k} at at' w w' =
      let same = place s.pitch y y' (k - y * s.pitch) (k - y' * s.pitch) (omega (arith, at.column, w.ends, w.starts))
      (omega (arith, at'.column, w'.ends, w'.starts)) (omega (arith, w.starts, w'.starts)) in
      (omega (arith, same.1, w.starts, w.ends, w'.starts, w'.ends), same.0)

  same-stretch : {x y x' y' k : ℕ} → In s x y → In s x' y' → Within s x y k → Within s x' y' k → stretch s x y ≡ stretch s x' y'
  same-stretch {x} {y} {x'} {y'} at at' w w' = let e = one-texel at at' w w' in ap (λ (t : ℕ). stretch s t y) e.0 ∙ ap (stretch s x')
      e.1

  -- ---- one part after another

  pub more : {value : ℕ → ℕ → List ℕ} {a b c : ℕ} {d e f : List ℕ} → a ≤ b → b ≤ c → Drawn s value a b d e → Drawn s value b c e f
      → Drawn s value a c d f
  more {value} {a} {b} {c} {d} {e} {f} ab bc p q =
      record {
        long = q.long ∙ p.long;
        drawn = λ x y i at h from to.
            ⊎_elim
            (λ lt. q.kept (texel_place s x y + i)
            (λ x' y' at' from' to' w'. omega (arith, same-stretch at at' (record { starts = omega arith; ends = omega arith }) w'))
            ∙ p.drawn x y i at h from lt)
            (λ ge. q.drawn x y i at h ge to)
            (below_or (stretch s x y) b);
        kept = λ k out.
            q.kept k (λ x y at from to w. out x y at (omega arith) to w) ∙ p.kept k (λ x y at from to w. out x y at from (omega arith) w);
      }

-- nothing is drawn where no texel lies
pub skipped : {s : Face} {value : ℕ → ℕ → List ℕ} {a b : ℕ} (d : List ℕ)
    → ((x y : ℕ) → In s x y → a ≤ stretch s x y → stretch s x y < b → ⊥) → Drawn s value a b d d
skipped d free = record { long = refl; drawn = λ x y i at h from to. absurd (free x y at from to); kept = λ k out. refl }

-- ---- a stretch

module _ (s : Face) where
  tells : (x y x' y' : ℕ) → x < s.width → x' < s.width → stretch s x y ≡ stretch s x' y' → (x / 4 ≡ x' / 4) × (y ≡ y')
  unfolding stretch
  tells x y x' y' h h' e =
      let number : y / 4 * blocks s.width + x / 4 ≡ y' / 4 * blocks s.width + x' / 4 = omega arith in
      let rest : y % 4 ≡ y' % 4 = omega arith in
      let same = place (blocks s.width) (y / 4) (y' / 4) (x / 4) (x' / 4) (omega arith) (omega arith) number in
      (same.1, omega (arith, same.0))

  beside_it : (x y j : ℕ) → x % 4 ≡ 0 → j < 4 → stretch s (x + j) y ≡ stretch s x y
  unfolding stretch
  beside_it x y j start h = let e : (x + j) / 4 ≡ x / 4 = omega arith in rw e

pub stretched : {s : Face} {value : ℕ → ℕ → List ℕ} {x y n t : ℕ} (d : List ℕ) {e : List ℕ} (bytes : List ℕ) → Part s x y n
    → t ≡ stretch s x y
    → length bytes ≡ 4 * n → texel_place s x y + 4 * n ≤ length d → e ≡ sets d (texel_place s x y) bytes
    → ((j i : ℕ) → j < n → i < 4 → get_or bytes (4 * j + i) 0 ≡ get_or (value (x + j) y) i 0) → Drawn s value t (t + 1) d e
stretched {s} {value} {x} {y} {n} {t} d {e} bytes p is long fits put each =
    record { long = ap length put ∙ length-sets d (texel_place s x y) bytes; drawn = there; kept = elsewhere }
  where
    inside : (x' : ℕ) → x / 4 ≡ x' / 4 → x' < s.width → x' - x < n
    inside x' same h = ⊎_elim (λ four. omega (arith, p.start)) (λ last. omega (arith, p.start)) p.whole

    there : (x' y' i : ℕ) → In s x' y' → i < 4 → t ≤ stretch s x' y' → stretch s x' y' < t + 1 → get_or e (texel_place s x' y' + i) 0 ≡
        get_or
        (value x' y') i 0
    there x' y' i at h from to =
        let same = tells s x y x' y' p.some at.column (omega (arith, is)) in
        let lt : x' - x < n = inside x' same.0 at.column in
        let on : x + (x' - x) ≡ x' = omega (arith, same.0, p.start) in
        let so : texel_place s x' y' + i ≡ texel_place s x y + (4 * (x' - x) + i) = omega
        (arith, on, ap (λ (k : ℕ). k * s.pitch) same.1) in
        let first : get_or e (texel_place s x y + (4 * (x' - x) + i)) 0 ≡ get_or (value (x + (x' - x)) y) i 0 =
        rw put (sets_in bytes d (texel_place s x y) (4 * (x' - x) + i) (omega (arith, long)) (omega (arith, long)) ∙ each (x' - x) i lt h)
        in
        ap (λ (k : ℕ). get_or e k 0) so ∙ first ∙ ap₂ (λ (u v : ℕ). get_or (value u v) i 0) on same.1

    elsewhere : (k : ℕ) → ((x' y' : ℕ) → In s x' y' → t ≤ stretch s x' y' → stretch s x' y' < t + 1 → Within s x' y' k → ⊥)
        → get_or e k 0 ≡ get_or d k 0
    elsewhere k out =
        rw put (sets-out bytes d (texel_place s x y) k
        (beside (texel_place s x y) (length bytes) k (λ from to.
        let lt : (k - texel_place s x y) / 4 < n = omega (arith, long) in
        let same = beside_it s x y ((k - texel_place s x y) / 4) p.start (omega (arith, p.few)) in
        out (x + (k - texel_place s x y) / 4) y (record { column = omega (arith, p.within); row = p.row }) (omega (arith, is))
        (omega (arith, is))
        (record { starts = omega arith; ends = omega arith }))))

-- the texels are those of another rule, where the two agree
pub agreed : {s : Face} {value value' : ℕ → ℕ → List ℕ} {a b : ℕ} {d e : List ℕ}
    → ((x y : ℕ) → In s x y → a ≤ stretch s x y → stretch s x y < b → value x y ≡ value' x y) → Drawn s value a b d e
    → Drawn s value' a b d e
agreed same p =
    record {
      long = p.long;
      drawn = λ x y i at h from to. p.drawn x y i at h from to ∙ ap (λ (l : List ℕ). get_or l i 0)
          (same x y at from to);
      kept = p.kept;
    }

-- a part of a row ends within the buffer
pub part-ends : {s : Face} {x y n room : ℕ} → Room s room → Part s x y n → texel_place s x y + 4 * n ≤ room
part-ends {s} {x} {y} {n} r p =
    let last : y ≤ s.height - 1 = omega (arith, p.row) in
    omega (arith, no_less s.pitch last, r.all, p.within)

-- a row's bytes are its texels'
pub row-texels : {s : Face} {x y n : ℕ} → Part s x y n → (row : Row) (j i : ℕ) → j < n → i < 4
    → get_or (row_bytes row n) (4 * j + i) 0 ≡ get_or (in_row (texel_of row) (x + j) y) i 0
row-texels {x = x} {n = n} p row j i h l =
    let column : (x + j) % 4 ≡ j = omega (arith, p.start, p.few) in
    rw column (row-byte row n j i p.few h l)

-- ---- the rows of a block

module _ {s : Face} {x y : ℕ} (at : Block s x y) where
  pub part_of : {j n rows : ℕ} → n ≡ min (s.width - 4 * x) 4 → rows ≡ min (s.height - 4 * y) 4 → j < rows → Part s (4 * x) (4 * y + j) n
  part_of {j} {n} {rows} wide high h =
      record {
        start = omega arith;
        row = omega arith;
        some = omega (arith, at.column);
        few = omega arith;
        within = omega (arith, at.column);
        whole = ⊎_elim (λ lt. inr (omega (arith, at.column))) (λ ge. inl (omega arith)) (below_or (s.width - 4 * x) 4);
      }

  pub part-first : {n rows : ℕ} → n ≡ min (s.width - 4 * x) 4 → rows ≡ min (s.height - 4 * y) 4 → Part s (4 * x) (4 * y) n
  part-first {n} wide high =
      let none : 4 * y + 0 ≡ 4 * y = omega arith in
      let here : Part s (4 * x) (4 * y + 0) n = part_of wide high (omega (arith, at.row)) in
      rw none at here

  pub stretch-of : (j : ℕ) → j < 4 → stretch s (4 * x) (4 * y + j) ≡ first s x y + j
  unfolding stretch
  stretch-of j h =
      let row : (4 * y + j) / 4 ≡ y = omega arith in
      let column : 4 * x / 4 ≡ x = omega arith in
      let rest : (4 * y + j) % 4 ≡ j = omega arith in
      rw (row, column, rest)

  -- below the last row there is nothing
  pub past_rows : {rows j : ℕ} {value : ℕ → ℕ → List ℕ} (d : List ℕ) → rows ≡ min (s.height - 4 * y) 4 → rows ≤ j → Drawn s value
      (first s x y + j) (first s x y + 4) d d
  past_rows {rows} {j} d high past = skipped d nothing
    where
      nothing : (x' y' : ℕ) → In s x' y' → first s x y + j ≤ stretch s x' y' → stretch s x' y' < first s x y + 4 → ⊥
      nothing x' y' there from to =
          let small : stretch s x' y' - first s x y < 4 = omega arith in
          let of = stretch-of (stretch s x' y' - first s x y) small in
          let same = tells s x' y' (4 * x) (4 * y + (stretch s x' y' - first s x y)) there.column (omega (arith, at.column))
          (omega (arith, of)) in
          omega (arith, same.1, there.row)

-- the texels of a row are those of the block
same_row : (F : ℕ → ℕ) (row : Row) (s : Face) (j : ℕ) → ((i : ℕ) → i < 4 → texel_of row i ≡ F (4 * j + i))
    → (x y : ℕ) → stretch s x y % 4 ≡ j → in_row (texel_of row) x y ≡ in_block F x y
unfolding stretch
same_row F row s j is x y e =
    let line : y % 4 ≡ j = omega arith in
    rw line (ap (little 4) (is (x % 4) (omega arith)))

-- one row more of a block
pub one-row : {s : Face} {x y room : ℕ} {d e f : List ℕ} (F : ℕ → ℕ) (row : Row) → Room s room → Block s x y → (j : ℕ) → j < 4
    → ((i : ℕ) → i < 4 → texel_of row i ≡ F (4 * j + i)) → Drawn s (in_block F) (first s x y) (first s x y + j) d e
    → Drawn s (in_row (texel_of row)) (stretch s (4 * x) (4 * y + j)) (stretch s (4 * x) (4 * y + j) + 1) e f
    → Drawn s (in_block F) (first s x y) (first s x y + (j + 1)) d f
one-row {s} {x} {y} {room} {d} {e} {f} F row r at j small is before drawn =
    let here : Drawn s (in_row (texel_of row)) (first s x y + j) (first s x y + j + 1) e f = rw (stretch-of at j small) at drawn in
    let next : first s x y + (j + 1) ≡ first s x y + j + 1 = omega arith in
    rw next (more r.narrow (omega arith) (omega arith) before (agreed
    (λ x' y' _ from to. same_row F row s j is x' y' (omega arith)) here))

-- the rows of a block's sixteen texels, one after another
module _ {s : Face} {x y room : ℕ} (r : Room s room) (at : Block s x y) (t : Sixteen) where
  abbrev pub Rows : ℕ → List ℕ → List ℕ → Type 0
  Rows j d e = Drawn s (in_block (texel_at t)) (first s x y) (first s x y + j) d e

  pub no_row : (d : List ℕ) → Rows 0 d d
  no_row d = skipped d (λ x y _ from to. omega arith)

  pub next_row : {d e f : List ℕ} (j : ℕ) → j < 4 → Rows j d e
      → Drawn s (in_row (texel_of (row_of t j))) (stretch s (4 * x) (4 * y + j)) (stretch s (4 * x) (4 * y + j) + 1) e f → Rows (j + 1) d f
  next_row j h p q = one-row (texel_at t) (row_of t j) r at j h (in_sixteen t j) p q

  pub first-row : {d e : List ℕ} → Drawn s (in_row (texel_of t.a)) (stretch s (4 * x) (4 * y)) (stretch s (4 * x) (4 * y) + 1) d e
      → Rows 1 d e
  unfolding row_of
  first-row {d} {e} p =
      let none : 4 * y ≡ 4 * y + 0 = omega arith in
      next_row 0 (omega arith) (no_row d) (rw none at p)

  -- the face ends before the block does
  pub ended : {rows : ℕ} {d e : List ℕ} (j : ℕ) → j ≤ 4 → rows ≡ min (s.height - 4 * y) 4 → rows ≤ j → Rows j d e → Rows 4 d e
  ended j few high past p = more r.narrow (omega arith) (omega arith) p (past_rows at _ high past)

-- a block within the face
module _ (s : Face) (x y : ℕ) (columns : 4 * x + 4 ≤ s.width) (rows : 4 * y + 4 ≤ s.height) where
  pub whole-block : Block s x y
  whole-block = record { column = omega (arith, columns); row = omega (arith, rows) }

  pub whole_row : (j : ℕ) → j < 4 → Part s (4 * x) (4 * y + j) 4
  whole_row j h =
      record {
        start = omega arith;
        row = omega (arith, rows);
        some = omega (arith, columns);
        few = omega arith;
        within = omega (arith, columns);
        whole = inl refl;
      }

  pub whole-first : Part s (4 * x) (4 * y) 4
  whole-first = let none : 4 * y + 0 ≡ 4 * y = omega arith in rw none at (whole_row 0 (omega arith))

-- ---- a block's bytes

module _ {s : Face} {x y room : ℕ} (r : Room s room) (at : Block s x y) where
  pub few : y * blocks s.width + x < 2097152
  few =
      let lines : y ≤ 1024 = omega (arith, at.row, r.few_rows) in
      let columns : blocks s.width ≤ 1024 = omega (arith, r.few_columns) in
      omega (arith, mul-le-mul lines columns, at.column)

module _ {s : Face} {x y : ℕ} (at : Block s x y) where
  pub block-there : (size : ℕ) {given : ℕ} → size * (blocks s.width * blocks s.height) ≤ given → size *
      (y * blocks s.width + x) + size ≤ given
  block-there size room =
      let rows = further (blocks s.width) at.row in
      omega (arith, mul-le-mul_left size (omega_le rows))
    where
      omega_le : y * blocks s.width + blocks s.width ≤ blocks s.height * blocks s.width → y * blocks s.width + x + 1 ≤ blocks
          s.width * blocks s.height
      omega_le h = omega (arith, at.column)

-- the block's texels are the picture's
pub block-agrees : (s : Face) {kind : Kind} {bs : List ℕ} {r : Sixteen} (x y : ℕ) → Texels bs kind
    (block_bytes kind * (y * blocks s.width + x)) r
    → (x' y' : ℕ) → first s x y ≤ stretch s x' y' → stretch s x' y' < first s x y + 4 → in_block (texel_at r) x' y' ≡ rgba kind s bs x' y'
unfolding stretch rgba
block-agrees s x y texels x' y' from to =
    let same : y' / 4 * blocks s.width + x' / 4 ≡ y * blocks s.width + x = omega arith in
    rw same (texels.each (4 * (y' % 4) + x' % 4) (omega arith))

-- ---- one block after another, one row of blocks after another

module _ {s : Face} (narrow : 4 * s.width ≤ s.pitch) {value : ℕ → ℕ → List ℕ} {d e f : List ℕ} where
  pub block_more : (x y : ℕ) → Drawn s value (first s 0 y) (first s x y) d e → Drawn s value (first s x y) (first s x y + 4) e f
      → Drawn s value (first s 0 y) (first s (x + 1) y) d f
  block_more x y p q =
      let next : first s (x + 1) y ≡ first s x y + 4 = omega arith in
      rw next (more narrow (omega arith) (omega arith) p q)

  pub line-more : (y : ℕ) → Drawn s value 0 (first s 0 y) d e → Drawn s value (first s 0 y) (first s 0 (y + 1)) e f → Drawn s value 0
      (first s 0 (y + 1)) d f
  line-more y p q = more narrow (omega arith) (omega arith) p q

pub line-whole : {s : Face} {value : ℕ → ℕ → List ℕ} {d e : List ℕ} {x : ℕ} (y a : ℕ) → x ≡ blocks s.width → Drawn s value a
    (first s x y) d e → Drawn s value a (first s 0 (y + 1)) d e
line-whole {s} y a full p =
    let same : first s 0 (y + 1) ≡ first s (blocks s.width) y = omega arith in
    rw same (rw full at p)
