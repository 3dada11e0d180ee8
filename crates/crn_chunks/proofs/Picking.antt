-- The selector indices at the positions.
use Rattle.std.specs.Prelude.{Ok, Err}
use Prim.Native.Nat.{ℕ, zero, suc, ◌+◌, ◌*◌, ◌≤◌, ◌<◌}
use mathlib.Core.Bool.{Bool, true, false}
use mathlib.Core.List.{List, [], ◌∷◌, ◌++◌}
use mathlib.Core.Path.{◌≡◌, refl, sym, ◌∙◌}
use native.Mathlib.Omega.{arith}
use native.Mathlib.Numerals.{add-one}
use lib.ListN.{length, get_or, drop, set, length-set}
use lib.Seq.{drop-cons, get_or-set_same, get_or-set_other}
use Rattle.crn_format.specs.Reading.{answer, got, refused, Source, run}
use Rattle.crn_format.specs.Level.{Plane, plane_selectors, position_selectors, last_row}
use Rattle.crn_format.proofs.Steps.{go_on, stop, answered}
use Rattle.crn_symbol_codec.specs.Cursors.{Holds}
use Rattle.crn_chunks.specs.Meaning.{source, spending, row, plane_of, planes, Coded, most}
use Rattle.crn_chunks.specs.Parts.{Draws, index_of, farthest, reach, Kept, Picks, rows_to, AllPicked}
use Rattle.crn_chunks.specs.Reads.{inside_of}
use Rattle.crn_chunks.specs.declared.Planes.{Planes}
use Rattle.crn_chunks.specs.declared.Stream.{Stream}
use Rattle.crn_chunks.specs.declared.Stop.{Stop}
use Rattle.crn_chunks.proofs.Indexing.{selector-is, reach-some}

-- ---- at one position, over any source

module _ {S : Type 0} (src : Source S) (p q : Plane) (inside : Bool) (i j : ℕ) (w : S) where
  spot_lost : (two : Bool) {x : ℕ} {v : S} → run src (index_of p.selector_deltas p.selectors inside i) w ≡ refused x v
      → run src (plane_selectors (row two p q) inside (row two i j)) w ≡ refused x v
  unfolding plane_selectors
  spot_lost two e = stop src _ _ w (selector-is src p inside i w ∙ e)

  spot-one : (two : Bool) {a : ℕ} (b : ℕ) {v : S} → two ≡ false → run src (index_of p.selector_deltas p.selectors inside i) w ≡ got a v
      → run src (plane_selectors (row two p q) inside (row two i j)) w ≡ got (row two a b) v
  unfolding plane_selectors
  spot-one two {a} b {v} h e = rw h (go_on src _ _ w (selector-is src p inside i w ∙ e) ∙ go_on src (answer []) (λ more. answer (a ∷ more))
      v (answered {A = List ℕ} src [] v) ∙ answered src _ v)

  spot-then_lost : (two : Bool) {a x : ℕ} {v u : S} → two ≡ true → run src (index_of p.selector_deltas p.selectors inside i) w ≡ got a v
      → run src (index_of q.selector_deltas q.selectors inside j) v ≡ refused x u → run src
      (plane_selectors (row two p q) inside (row two i j)) w ≡ refused x u
  unfolding plane_selectors
  spot-then_lost two {v = v} h e f = rw h (go_on src _ _ w (selector-is src p inside i w ∙ e) ∙ stop src _ _ v
      (stop src _ _ v (selector-is src q inside j v ∙ f)))

  spot-two : (two : Bool) {a b : ℕ} {v u : S} → two ≡ true → run src (index_of p.selector_deltas p.selectors inside i) w ≡ got a v
      → run src (index_of q.selector_deltas q.selectors inside j) v ≡ got b u → run src (plane_selectors (row two p q) inside (row two i j))
      w ≡ got (row two a b) u
  unfolding plane_selectors
  spot-two two {a} {b} {v} {u} h e f =
      rw h (go_on src _ _ w (selector-is src p inside i w ∙ e)
      ∙ go_on src _ (λ more. answer (a ∷ more)) v (go_on src _ _ v (selector-is src q inside j v ∙ f) ∙ go_on src (answer [])
      (λ more. answer (b ∷ more)) u (answered {A = List ℕ} src [] u) ∙ answered src _ u)
      ∙ answered src _ u)

-- ---- the answer at a position, by those for the first plane and the second

module _ {lookup sorted seg : List ℕ} (ps : Planes) (inside : Bool) (s0 s1 : ℕ) {s : Stream} where
  pub picks_lost : {y : Stop}
      → Draws lookup sorted seg ps (λ cs. index_of (cs ps.first.sels) ps.first.selectors inside s0) s (reach inside s0) (Err y)
      → Picks lookup sorted seg ps inside s0 s1 s (Err y)
  unfolding plane_of
  picks_lost x =
      record {
        same = λ cs c. sym (spot_lost (source seg) (plane_of cs ps.first) (plane_of cs ps.second) inside s0 s1 (spending s) ps.two
            (sym (x.same cs c)));
        on = tt;
      }

  module _ {i : ℕ} {t : Stream}
      (x : Draws lookup sorted seg ps (λ cs. index_of (cs ps.first.sels) ps.first.selectors inside s0) s (reach inside s0) (Ok (i, t)))
    where
      pub picks_one : ps.two ≡ false → Picks lookup sorted seg ps inside s0 s1 s (Ok (i, 0, t))
      unfolding plane_of
      picks_one h =
          record {
            same = λ cs c. sym (spot-one (source seg) (plane_of cs ps.first) (plane_of cs ps.second) inside s0 s1 (spending s) ps.two 0 h
                (sym (x.same cs c)));
            on = (x.on.0, (x.on.1, reach-some inside s1));
          }

      module _ (h : ps.two ≡ true) where
        pub picks_then_lost : {z : Stop}
            → Draws lookup sorted seg ps (λ cs. index_of (cs ps.second.sels) ps.second.selectors inside s1) t (reach inside s1) (Err z)
            → Picks lookup sorted seg ps inside s0 s1 s (Err z)
        unfolding plane_of
        picks_then_lost y =
            record {
              same = λ cs c.
                  sym (spot-then_lost (source seg) (plane_of cs ps.first) (plane_of cs ps.second) inside s0 s1 (spending s) ps.two h
                  (sym (x.same cs c)) (sym (y.same cs c)));
              on = tt;
            }

        pub picks_two : {j : ℕ} {u : Stream}
            → Draws lookup sorted seg ps (λ cs. index_of (cs ps.second.sels) ps.second.selectors inside s1) t (reach inside s1) (Ok (j, u))
            → Picks lookup sorted seg ps inside s0 s1 s (Ok (i, j, u))
        unfolding plane_of
        picks_two y =
            record {
              same = λ cs c. sym (spot-two (source seg) (plane_of cs ps.first) (plane_of cs ps.second) inside s0 s1 (spending s) ps.two h
                  (sym (x.same cs c)) (sym (y.same cs c)));
              on = (y.on.0, (x.on.1, y.on.1));
            }

-- ---- one position more, over any source

module _ {S : Type 0} (src : Source S) (ps : List Plane) (is : List ℕ) (rows : List (List ℕ)) (w : S) {flags more : List Bool}
    {inside : Bool} (f : flags ≡ inside ∷ more) where
  row_lost : {x : ℕ} {v : S} → run src (plane_selectors ps inside is) w ≡ refused x v → run src (position_selectors ps flags is rows) w ≡
      refused x v
  unfolding position_selectors
  row_lost e = rw f (stop src _ _ w e)

  row_more : {js : List ℕ} {v : S} → run src (plane_selectors ps inside is) w ≡ got js v
      → run src (position_selectors ps flags is rows) w ≡ run src (position_selectors ps more js (rows ++ (js ∷ []))) v
  unfolding position_selectors
  row_more e = rw f (go_on src _ _ w e)

row_done : {S : Type 0} (src : Source S) (ps : List Plane) (is : List ℕ) (rows : List (List ℕ)) (w : S) → run src
    (position_selectors ps [] is rows) w ≡ got rows w
unfolding position_selectors
row_done src ps is rows w = answered src rows w

-- ---- the indices in their place

rows_same : (two : Bool) (l m : List ℕ) (k : ℕ) → ((q : ℕ) → q < k → (get_or l (8 + q) 0 ≡ get_or m (8 + q) 0) ×
    (get_or l (12 + q) 0 ≡ get_or m (12 + q) 0)) → rows_to two l k ≡ rows_to two m k
unfolding rows_to
rows_same two l m zero h = refl
rows_same two l m (suc k) h =
    let g = h k (omega arith) in
    rw (rows_same two l m k (λ q e. h q (omega arith)), g.0, g.1)

rows_set : (two : Bool) (l : List ℕ) (k i j : ℕ) → k < 4 → length l ≡ 16
    → rows_to two (set (set l (8 + k) i) (12 + k) j) (k + 1) ≡ rows_to two l k ++ (row two i j ∷ [])
unfolding rows_to
rows_set two l k i j h e =
    let a : get_or (set (set l (8 + k) i) (12 + k) j) (12 + k) 0 ≡ j = get_or-set_same (set l (8 + k) i) (12 + k) j 0
    (omega (arith, length-set l (8 + k) i)) in
    let b : get_or (set (set l (8 + k) i) (12 + k) j) (8 + k) 0 ≡ i = get_or-set_other (set l (8 + k) i) (12 + k) (8 + k) j 0
    (λ f. omega arith) ∙ get_or-set_same l (8 + k) i 0 (omega arith) in
    rw (add-one k) (rw (a, b) (rw (rows_same two (set (set l (8 + k) i) (12 + k) j) l k
    (λ q f. (other (8 + q) (omega arith) (omega arith), other (12 + q) (omega arith) (omega arith))))))
  where
    other : (q : ℕ) → (q ≡ 12 + k → ⊥) → (q ≡ 8 + k → ⊥) → get_or (set (set l (8 + k) i) (12 + k) j) q 0 ≡ get_or l q 0
    other q f g = get_or-set_other (set l (8 + k) i) (12 + k) q j 0 f ∙ get_or-set_other l (8 + k) q i 0 g

last-row-more : (is : List ℕ) (rows : List (List ℕ)) (js : List ℕ) → last_row is (rows ++ (js ∷ [])) ≡ js
unfolding last_row
last-row-more is [] js = refl
last-row-more is (r ∷ rows) js = last-row-more r rows js

-- ---- how far the indices go: the first position lies inside

abbrev pub reach_at : ℕ → ℕ
reach_at zero = most
reach_at (suc k) = (k + 1) * farthest

pub reach-at : (k : ℕ) → k ≤ 4 → reach_at k ≤ most
reach-at zero h = omega arith
reach-at (suc k) h = omega arith

reach-next : (right bottom : Bool) (k : ℕ) {inside : Bool} {i j : ℕ} → inside ≡ get_or (inside_of right bottom) k true → i < reach_at k → j
    < reach inside i → j < reach_at (k + 1)
reach-next right bottom zero e h g = rw e at g
reach-next right bottom (suc k) {inside} {i} {j} e h g = rw (add-one (suc k)) (go inside g)
  where
    go : (b : Bool) → j < reach b i → j < reach_at (suc (suc k))
    go true l = omega arith
    go false l = omega arith

flag : (right bottom : Bool) (k : ℕ) {inside : Bool} → k < 4 → inside ≡ get_or (inside_of right bottom) k true → drop k
    (inside_of right bottom) ≡ inside ∷ drop (k + 1) (inside_of right bottom)
flag right bottom k h e = rw (e, add-one k) (drop-cons (inside_of right bottom) k true h)

-- ---- k of the four positions done: what is left, run from here, ends as all of them do

pub record Picking (lookup sorted seg : List ℕ) (ps : Planes) (right bottom : Bool) (s0 s1 : ℕ) (s : Stream) (before out : List ℕ)
    (at : Stream) (i0 i1 k : ℕ) : Type 0 where
  pub some : k ≤ 4
  pub holds : Holds seg at.cursor
  pub below : (i0 < reach_at k) × (i1 < reach_at k)
  pub final : last_row (row ps.two s0 s1) (rows_to ps.two out k) ≡ row ps.two i0 i1
  pub long : length out ≡ length before
  pub kept : Kept 8 before out
  pub left : (cs : ℕ → List ℕ) → Coded cs ps lookup sorted
      → run (source seg) (position_selectors (planes cs ps) (inside_of right bottom) (row ps.two s0 s1) []) (spending s)
      ≡ run (source seg) (position_selectors (planes cs ps) (drop k (inside_of right bottom)) (row ps.two i0 i1) (rows_to ps.two out k))
      (spending at)

module _ {lookup sorted seg : List ℕ} {ps : Planes} {right bottom : Bool} {s0 s1 : ℕ} {s : Stream} where
  pub picking_none : (before : List ℕ) → Holds seg s.cursor → s0 < most → s1 < most → Picking lookup sorted seg ps right bottom s0 s1 s
      before before s s0 s1 0
  unfolding rows_to last_row
  picking_none before h f g =
      record {
        some = omega arith;
        holds = h;
        below = (f, g);
        final = refl;
        long = refl;
        kept = λ q l. refl;
        left = λ cs c. refl;
      }

  module _ {before out : List ℕ} {at : Stream} {i0 i1 k : ℕ} (x : Picking lookup sorted seg ps right bottom s0 s1 s before out at i0 i1 k)
    where
      module _ (more : k < 4) {inside : Bool} (f : inside ≡ get_or (inside_of right bottom) k true) where
        pub picking_more : {i j : ℕ} {t : Stream} → Picks lookup sorted seg ps inside i0 i1 at (Ok (i, j, t)) → length before ≡ 16
            → Picking lookup sorted seg ps right bottom s0 s1 s before (set (set out (8 + k) i) (12 + k) j) t i j (k + 1)
        picking_more {i} {j} {t} d l =
            let g = d.on in
            let q = rows_set ps.two out k i j more (x.long ∙ l) in
            record {
              some = omega arith;
              holds = g.0;
              below = (reach-next right bottom k f x.below.0 g.1.0, reach-next right bottom k f x.below.1 g.1.1);
              final = rw q (last-row-more (row ps.two s0 s1) (rows_to ps.two out k) (row ps.two i j));
              long = length-set (set out (8 + k) i) (12 + k) j ∙ length-set out (8 + k) i ∙ x.long;
              kept = λ p h. get_or-set_other (set out (8 + k) i) (12 + k) p j 0 (λ z. omega arith) ∙ get_or-set_other out (8 + k) p i 0
                  (λ z. omega arith) ∙ x.kept p h;
              left = λ cs c. x.left cs c ∙ row_more (source seg) (planes cs ps) (row ps.two i0 i1) (rows_to ps.two out k) (spending at)
                  (flag right bottom k more f) (sym (d.same cs c)) ∙ rw q;
            }

        pub picking_lost : {y : Stop} → Picks lookup sorted seg ps inside i0 i1 at (Err y)
            → AllPicked lookup sorted seg ps (inside_of right bottom) s0 s1 s before out (Err y)
        picking_lost d =
            record {
              same = λ cs c.
                  sym (x.left cs c ∙ row_lost (source seg) (planes cs ps) (row ps.two i0 i1) (rows_to ps.two out k) (spending at)
                  (flag right bottom k more f) (sym (d.same cs c)));
              on = tt;
              kept = x.kept;
            }

      pub picking_done : 4 ≤ k → AllPicked lookup sorted seg ps (inside_of right bottom) s0 s1 s before out (Ok (i0, i1, at))
      picking_done h =
          let e : k ≡ 4 = omega (arith, x.some) in
          let y = rw e at x in
          record {
            same = λ cs c. sym (y.left cs c ∙ row_done (source seg) (planes cs ps) (row ps.two i0 i1) (rows_to ps.two out 4) (spending at));
            on = (y.holds, (omega (arith, y.below.0), (omega (arith, y.below.1), y.final)));
            kept = y.kept;
          }
