-- A chunk, its blocks, and a level's chunks. What is left open: the bits that a cursor has at hand, the indices of a plane that is not
-- there, and what a level that is refused has left in the grid's blocks, which are then cleared.
use Prim.Native.Nat.{ℕ, ◌+◌, ◌-◌, ◌≤◌, ◌<◌}
use mathlib.Core.Path.{◌≡◌, refl, sym, ◌∙◌}
use mathlib.Core.Logic.{⊎_elim}
use mathlib.Core.List.{List}
use Rattle.std.specs.Prelude.{Ok, Err}
use native.Mathlib.Omega.{arith}
use lib.ListN.{length, get_or}
use lib.Seq.{ext_get_or}
use Rattle.crn_format.specs.Reading.{Step, Spending}
use Rattle.crn_format.specs.Level.{Running}
use Rattle.crn_format.specs.Grid.{chunk_count, place_of}
use Rattle.crn_format.specs.declared.Grid.{Grid}
use Rattle.crn_chunks.specs.Meaning.{Served}
use Rattle.crn_chunks.specs.Reads.{chunked}
use Rattle.crn_chunks.specs.declared.Stream.{Stream}
use Rattle.crn_chunks.proofs.read_chunk.Reads as read-chunk
use Rattle.crn_quick.proofs.read_chunk.Reads as quick-read-chunk
use Rattle.crn_blocks.specs.Sheet.{In, Within, Room, Painted, turn}
use Rattle.crn_blocks.proofs.Places.{below_or, apart, Same}
use Rattle.crn_blocks.proofs.Bytes.{Holder, look}
use Rattle.crn_blocks.proofs.Whole.{wiped}
use Rattle.crn_chunk_blocks.proofs.blocks.Reads as blocks
use Rattle.crn_unpacker.specs.Going.{Went, Given, given_in, Fit, Goes, none, state_at}
use Rattle.crn_unpacker.proofs.Whole.{level_course, stands-first, through, early}
use Rattle.crn_unpacker.proofs.paint.Reads as paint
use Rattle.crn_laws_results.specs.Settled.{SettledIf, alike}
use Rattle.crn_laws_results.specs.Seen.{went, left}
use Rattle.crn_laws_results.proofs.Steps.{got_or_refused}

-- the chunk and what is carried on from it, with the place after it and the budget that is left; or the refusal
pub read_chunk-settled : SettledIf (λ (supply, _) r. Served supply.now.planes supply.now.lookup.now supply.now.sorted.now)
    read-chunk.Post
    (λ (supply, _) r (_, (_, (_, (_, (_, (out, _)))))). chunked supply.now.planes.two out.now r)
read_chunk-settled _ _ _ _ _ _ _ h _ p q = alike (p.same h.codes h.coded) (q.same h.codes h.coded)

pub quick_read_chunk-settled : SettledIf (λ (supply, _) r. Served supply.now.planes supply.now.lookup.now supply.now.sorted.now)
    quick-read-chunk.Post
    (λ (supply, _) r (_, (_, (_, (_, (_, (out, _)))))). chunked supply.now.planes.two out.now r)
quick_read_chunk-settled _ _ _ _ _ _ _ h _ p q = alike (p.same h.codes h.coded) (q.same h.codes h.coded)

-- ---- a chunk's blocks

-- a painting tells every byte: of a block whose turn it is, and of all else
module _ {g : Grid} {value : ℕ → List ℕ} {a b : ℕ} {d e f : List ℕ} (room : Room g (length d)) (p : Painted g value a b d e)
    (q : Painted g value a b d f) where
  both-kept : (k : ℕ) → ((i x y : ℕ) → In g i x y → a ≤ turn g i x y → turn g i x y < b → Within g i x y k → ⊥) → get_or e k 0 ≡ get_or f k
      0
  both-kept k off = p.kept k off ∙ sym (q.kept k off)

  held_by : (k : ℕ) → Holder g k → get_or e k 0 ≡ get_or f k 0
  held_by k h = ⊎_elim (λ early. both-kept k (λ i x y at lo hi w. let t = same i x y at w in omega arith))
      (λ lo. ⊎_elim (λ hi. drawn lo hi) (λ late. both-kept k (λ i x y at _ hi w. let t = same i x y at w in omega arith)) (below_or here b))
      (below_or here a)
    where
      here : ℕ
      here = turn g h.face h.column h.row

      same : (i x y : ℕ) → In g i x y → Within g i x y k → here ≡ turn g i x y
      same i x y at w =
          let s : Same h.face h.column h.row i x y = apart room h.at at h.holds w in
          let e1 : h.face ≡ i = s.face in
          let e2 : h.column ≡ x = s.column in
          let e3 : h.row ≡ y = s.row in
          cc

      start : ℕ
      start = place_of g h.face h.column h.row

      drawn : a ≤ here → here < b → get_or e k 0 ≡ get_or f k 0
      drawn lo hi =
          let is : start + (k - start) ≡ k = omega (arith, h.holds.starts) in
          let small : k - start < g.bytes = omega (arith, h.holds.ends, h.holds.starts) in
          rw is at (p.drawn h.face h.column h.row (k - start) h.at small lo hi ∙ sym
          (q.drawn h.face h.column h.row (k - start) h.at small lo hi))

  pub painted_once : e ≡ f
  painted_once =
      ext_get_or 0 e f (p.long ∙ sym q.long)
      (λ k _. ⊎_elim (held_by k) (λ free. both-kept k (λ i x y at _ _ w. free i x y at w)) (look room k))

pub blocks-settled : SettledIf (λ (dst, (_, (_, (_, (g, _))))) r. Room g (length dst.now)) blocks.Post (λ a r e. e.0.now)
blocks-settled _ _ _ _ _ _ _ room _ p q = painted_once room p q

-- ---- a level's chunks

module _ (l : Given) (s : Stream) (d : List ℕ) (fit : Fit l (length d)) where
  abbrev codes : ℕ → List ℕ
  codes = fit.served.codes

  state-is : {e : List ℕ} (w : Went) → Goes l 0 (chunk_count l.grid) none s d e w
      → state_at l (level_course l codes s) (chunk_count l.grid) ≡ went l.planes.two w
  state-is (Ok (r, t)) g = ((g.moved (level_course l codes s) (stands-first l codes s fit.served.coded)).on r t refl).state
  state-is (Err x) g = ((g.moved (level_course l codes s) (stands-first l codes s fit.served.coded)).stop x refl).why

  module _ {e f : List ℕ} where
    by : (w v : Went) → went l.planes.two w ≡ went l.planes.two v → Goes l 0 (chunk_count l.grid) none s d e w
        → Goes l 0 (chunk_count l.grid) none s d f v → left l.grid w e ≡ left l.grid v f
    by (Ok (r, t)) (Ok (q, u)) same g h =
        alike (through g codes fit.served.coded fit refl).picture (through h codes fit.served.coded fit refl).picture
    by (Ok (r, t)) (Err x) same g h = absurd (got_or_refused same)
    by (Err x) (Ok (r, t)) same g h = absurd (got_or_refused (sym same))
    by (Err x) (Err y) same g h =
        alike (wiped fit.room (early g codes fit.served.coded refl).rest) (wiped fit.room (early h codes fit.served.coded refl).rest)

    goes-settled : (w v : Went) → Goes l 0 (chunk_count l.grid) none s d e w → Goes l 0 (chunk_count l.grid) none s d f v
        → ◌≡◌ {A = Step Spending Running × List ℕ} (went l.planes.two w, left l.grid w e) (went l.planes.two v, left l.grid v f)
    goes-settled w v g h =
        let same : went l.planes.two w ≡ went l.planes.two v = sym (state-is w g) ∙ state-is v h in
        λ i. (same i, by w v same g h i)

pub paint-settled : SettledIf {X = Step Spending Running × List ℕ}
    (λ (dst, (level, _)) w. Fit (given_in level.now) (length dst.now)) paint.Post
    (λ (_, (level, _)) w (dst, _). (went level.now.supply.planes.two w, left level.now.grid w dst.now))
paint-settled _ _ (dst, (level, (s, _))) w v _ _ fit _ p q = goes-settled (given_in level.now) s dst.now fit w v p q
