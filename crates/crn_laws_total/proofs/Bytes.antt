-- A painted destination, byte by byte.
use Prim.Native.Nat.{ℕ, ◌+◌, ◌-◌, ◌≤◌, ◌<◌, min}
use mathlib.Core.Logic.{◌⊎◌, inl, inr, ⊎_elim}
use mathlib.Core.List.{List}
use mathlib.Core.Path.{◌≡◌, refl, sym, ap, ◌∙◌}
use native.Mathlib.Omega.{arith}
use lib.ListN.{length, get_or, take, drop, length-take, length-drop, length-replicate, get_or-replicate, get_or-eq_default}
use lib.Seq.{get_or-take, get_or-drop, ext_get_or}
use Rattle.crn_format.specs.Grid.{place_of, painted, blank}
use Rattle.crn_format.specs.declared.Grid.{Grid}
use Rattle.crn_blocks.specs.Sheet.{In, Within, Room}
use Rattle.crn_blocks.proofs.Places.{below_or, lies}
use Rattle.crn_blocks.proofs.Bytes.{Free, look, Sized, painted-length, kept, drawn}
use Rattle.crn_laws_total.specs.Leaves.{InBlock, Leaves}

-- a byte of a block, by its number there or by where the block starts and ends
within : {g : Grid} {f x y i : ℕ} → In g f x y → Within g f x y i → InBlock g i
within {g} {f} {x} {y} {i} at w =
    record {
      face = f;
      column = x;
      row = y;
      byte = i - place_of g f x y;
      block = at;
      small = omega (arith, w.starts, w.ends);
      here = omega
          (arith, w.starts);
    }

not_within : {g : Grid} {i : ℕ} → Free g i → InBlock g i → ⊥
not_within free b = free b.face b.column b.row b.block (record { starts = omega (arith, b.here); ends = omega (arith, b.here, b.small) })

pub painted-leaves : {g : Grid} (b : List ℕ) → Room g (length b) → (block : ℕ → ℕ → ℕ → List ℕ) → Sized g block → (byte : ℕ → ℕ → ℕ → ℕ → ℕ)
    → ((f x y k : ℕ) → k < g.bytes → get_or (block f x y) k 0 ≡ byte f x y k) → Leaves g byte b (painted g block g.faces b)
painted-leaves {g} b room block sized byte is =
    record {
      long = painted-length g block g.faces b;
      fits = λ f x y at. (lies room at).in_all;
      blocks = λ f x y k at h. drawn block sized room at h b refl ∙ is f x y k h;
      others = λ i out. kept block sized b i (λ f x y at w. out (within at w));
      each = λ i. ⊎_elim (λ h. inl (within h.at h.holds)) (λ free. inr (not_within free)) (look room i);
    }

-- every block zero
pub blank-leaves : {g : Grid} (b : List ℕ) → Room g (length b) → Leaves g (λ f x y k. 0) b (painted g (blank g) g.faces b)
blank-leaves {g} b room =
    painted-leaves b room (blank g) (λ f x y at. length-replicate g.bytes 0) (λ f x y k. 0) (λ f x y k h. get_or-replicate g.bytes k 0 0 h)

-- a byte of a block is what its block has there
by_block : {g : Grid} {byte : ℕ → ℕ → ℕ → ℕ → ℕ} {b a : List ℕ} {i : ℕ} → Leaves g byte b a → (h : InBlock g i)
    → get_or a i 0 ≡ byte h.face h.column h.row h.byte
by_block {a = a} l h = ap (λ (j : ℕ). get_or a j 0) h.here ∙ l.blocks h.face h.column h.row h.byte h.block h.small

-- each byte by itself: what its block has there, or what it was
pub each-byte : {g : Grid} {byte : ℕ → ℕ → ℕ → ℕ → ℕ} {b a : List ℕ} → Leaves g byte b a → (i : ℕ)
    → ((h : InBlock g i) × (get_or a i 0 ≡ byte h.face h.column h.row h.byte)) ⊎ ((InBlock g i → ⊥) × (get_or a i 0 ≡ get_or b i 0))
each-byte l i = ⊎_elim (λ h. inl (h, by_block l h)) (λ out. inr (out, l.others i out)) (l.each i)

-- so only one list can be left
pub same-leaves : {g : Grid} {byte : ℕ → ℕ → ℕ → ℕ → ℕ} {b a c : List ℕ} → Leaves g byte b a → Leaves g byte b c → a ≡ c
same-leaves {a = a} {c = c} l m =
    ext_get_or 0 a c (l.long ∙ sym m.long)
    (λ i _. ⊎_elim (λ h. by_block l h ∙ sym (by_block m h)) (λ out. l.others i out ∙ sym (m.others i out)) (l.each i))

-- ---- where every block lies in the first m bytes

module _ {g : Grid} (m : ℕ) (low : (f x y : ℕ) → In g f x y → place_of g f x y + g.bytes ≤ m) {byte : ℕ → ℕ → ℕ → ℕ → ℕ} {b a : List ℕ}
    (l : Leaves g byte b a) where
  -- these are left as all is
  pub first-leaves : Leaves g byte (take m b) (take m a)
  first-leaves =
      record {
        long = simp length-take (ap (min m) l.long);
        fits = λ f x y at. simp length-take (omega (arith, low f x y at, l.fits f x y at));
        blocks = λ f x y k at h. get_or-take m a (place_of g f x y + k) 0 (omega (arith, low f x y at)) ∙ l.blocks f x y k at h;
        others = λ i out. ⊎_elim (λ h. get_or-take m a i 0 h ∙ l.others i out ∙ sym (get_or-take m b i 0 h))
            (λ h. past a i h ∙ sym (past b i h)) (below_or i m);
        each = l.each;
      }
    where
      past : (xs : List ℕ) (i : ℕ) → m ≤ i → get_or (take m xs) i 0 ≡ 0
      past xs i h = get_or-eq_default (take m xs) 0 (simp length-take (omega arith))

  -- and those behind them are as before
  pub behind-same : drop m a ≡ drop m b
  behind-same =
      ext_get_or 0 (drop m a) (drop m b) (simp length-drop (ap (λ (n : ℕ). n - m) l.long))
      (λ i _. get_or-drop m a i 0 ∙ l.others (m + i) (λ h. omega (arith, h.here, h.small, low h.face h.column h.row h.block)) ∙ sym
      (get_or-drop m b i 0))
