-- The endpoint indices of the tiles, plane by plane.
use Rattle.std.specs.Prelude.{Ok, Err}
use Prim.Native.Nat.{ℕ, suc, ◌+◌, ◌-◌, ◌≤◌, ◌<◌}
use mathlib.Core.Bool.{Bool, true, false}
use mathlib.Core.List.{List, [], ◌∷◌, ◌++◌}
use mathlib.Core.Path.{◌≡◌, refl, sym, ap, ◌∙◌}
use native.Mathlib.Omega.{arith}
use native.Mathlib.Numerals.{add-one}
use lib.ListN.{length, drop, set, length-take, length-drop, length-set}
use lib.Seq.{take-suc-set, drop-set-add, get_or-set_other, get_or-take, get_or-drop, ext_get_or}
use Rattle.crn_format.specs.Reading.{answer, got, refused, Source, run}
use Rattle.crn_format.specs.Level.{Plane, endpoint_indices, plane_endpoints, last_or, lasts}
use Rattle.crn_format.proofs.Steps.{go_on, stop, answered}
use Rattle.crn_symbol_codec.specs.Cursors.{Holds}
use Rattle.crn_chunks.specs.Meaning.{source, spending, row, plane_of, Coded, most}
use Rattle.crn_chunks.specs.Parts.{Draws, index_of, reach, tiles_at, Kept, Tiled, AllTiled}
use Rattle.crn_chunks.specs.declared.Side.{Side}
use Rattle.crn_chunks.specs.declared.Planes.{Planes}
use Rattle.crn_chunks.specs.declared.Stream.{Stream}
use Rattle.crn_chunks.specs.declared.Stop.{Stop}
use Rattle.crn_chunks.proofs.Indexing.{endpoint-is}

-- ---- one tile more, over any source

module _ {S : Type 0} (src : Source S) (p : Plane) (n k : ℕ) (xs : List ℕ) (j : ℕ) (w : S) where
  split : k < n → n - k ≡ suc (n - (k + 1))
  split h = omega arith

  tile_lost : {x : ℕ} {v : S} → k < n → run src (index_of p.endpoint_deltas p.endpoints true j) w ≡ refused x v → run src
      (endpoint_indices p (n - k) j xs) w ≡ refused x v
  unfolding endpoint_indices
  tile_lost h e = rw (split h) (stop src _ _ w (endpoint-is src p j w ∙ e))

  tile_more : {t : ℕ} {v : S} → k < n → run src (index_of p.endpoint_deltas p.endpoints true j) w ≡ got t v
      → run src (endpoint_indices p (n - k) j xs) w ≡ run src (endpoint_indices p (n - (k + 1)) t (xs ++ (t ∷ []))) v
  unfolding endpoint_indices
  tile_more h e = rw (split h) (go_on src _ _ w (endpoint-is src p j w ∙ e))

  tile_done : n ≤ k → run src (endpoint_indices p (n - k) j xs) w ≡ got xs w
  unfolding endpoint_indices
  tile_done h = let e : n - k ≡ 0 = omega arith in rw e (answered src xs w)

-- ---- the indices in their place

tiles-set : (base k : ℕ) (l : List ℕ) (v : ℕ) → base + k < length l → tiles_at base (k + 1) (set l (base + k) v) ≡ tiles_at base k l ++
    (v ∷ [])
tiles-set base k l v h = rw (drop-set-add base l k v, add-one k) (take-suc-set (drop base l) k v (simp (length-drop) (omega arith)))

last_more : (i : ℕ) (xs : List ℕ) (v : ℕ) → last_or i (xs ++ (v ∷ [])) ≡ v
unfolding last_or
last_more i [] v = refl
last_more i (x ∷ xs) v = last_more x xs v

kept_set : (base : ℕ) (before l : List ℕ) (k v : ℕ) → base ≤ k → Kept base before l → Kept base before (set l k v)
kept_set base before l k v h f q g = get_or-set_other l k q v 0 (λ e. omega arith) ∙ f q g

-- what stands before `base` is the same
pub kept-tiles : (base from n : ℕ) (before after : List ℕ) → from + n ≤ base → length after ≡ length before → Kept base before after →
    tiles_at from n after ≡ tiles_at from n before
kept-tiles base from n before after h e f =
    ext_get_or 0 _ _ (simp (length-take, length-drop) (rw e)) (λ i g.
    let l : i < n = omega (arith, length-take n (drop from after)) in
    get_or-take n (drop from after) i 0 l ∙ get_or-drop from after i 0 ∙ f (from + i) (omega arith)
    ∙ sym (get_or-take n (drop from before) i 0 l ∙ get_or-drop from before i 0))

-- ---- k of a plane's n tiles done: what is left, run from here, ends as all of them do

pub record Tiling (lookup sorted seg : List ℕ) (ps : Planes) (p : Side) (base n i : ℕ) (s : Stream) (before out : List ℕ) (at : Stream)
    (last k : ℕ) : Type 0 where
  pub some : k ≤ n
  pub holds : Holds seg at.cursor
  pub below : last < most
  pub final : last_or i (tiles_at base k out) ≡ last
  pub long : length out ≡ length before
  pub kept : Kept base before out
  pub left : (cs : ℕ → List ℕ) → Coded cs ps lookup sorted
      → run (source seg) (endpoint_indices (plane_of cs p) n i []) (spending s)
      ≡ run (source seg) (endpoint_indices (plane_of cs p) (n - k) last (tiles_at base k out)) (spending at)

module _ {lookup sorted seg : List ℕ} {ps : Planes} {p : Side} {base n i : ℕ} {s : Stream} where
  pub tiling_none : (before : List ℕ) → Holds seg s.cursor → i < most → Tiling lookup sorted seg ps p base n i s before before s i 0
  unfolding last_or
  tiling_none before h l =
      record {
        some = omega arith;
        holds = h;
        below = l;
        final = refl;
        long = refl;
        kept = λ q g. refl;
        left = λ cs k. let e : n - 0 ≡ n = omega arith in rw e;
      }

  module _ {before out : List ℕ} {at : Stream} {last k : ℕ} (x : Tiling lookup sorted seg ps p base n i s before out at last k) where
    module _ (more : k < n) where
      pub tiling_more : {j : ℕ} {t : Stream}
          → Draws lookup sorted seg ps (λ cs. index_of (cs p.ends) p.endpoints true last) at (reach true last) (Ok (j, t))
          → base + n ≤ length before → Tiling lookup sorted seg ps p base n i s before (set out (base + k) j) t j (k + 1)
      unfolding plane_of
      tiling_more {j} {t} d f =
          let q = tiles-set base k out j (omega (arith, x.long)) in
          record {
            some = omega arith;
            holds = d.on.0;
            below = omega (arith, d.on.1);
            final = rw q (last_more i (tiles_at base k out) j);
            long = length-set out (base + k) j ∙ x.long;
            kept = kept_set base before out (base + k) j (omega arith) x.kept;
            left = λ cs c. x.left cs c ∙ tile_more (source seg) (plane_of cs p) n k (tiles_at base k out) last (spending at) more
                (sym (d.same cs c)) ∙ rw q;
          }

      pub tiling_lost : {y : Stop}
          → Draws lookup sorted seg ps (λ cs. index_of (cs p.ends) p.endpoints true last) at (reach true last) (Err y)
          → Tiled lookup sorted seg ps p base n i s before out (Err y)
      unfolding plane_of
      tiling_lost d =
          record {
            same = λ cs c. sym (x.left cs c ∙ tile_lost (source seg) (plane_of cs p) n k (tiles_at base k out) last (spending at) more
                (sym (d.same cs c)));
            on = tt;
            kept = x.kept;
          }

    pub tiling_done : n ≤ k → Tiled lookup sorted seg ps p base n i s before out (Ok (last, at))
    tiling_done h =
        let e : k ≡ n = omega (arith, x.some) in
        record {
          same = λ cs c. sym (x.left cs c ∙ tile_done (source seg) (plane_of cs p) n k (tiles_at base k out) last (spending at) h ∙ rw e);
          on = (x.holds, (x.below, rw (← e) x.final));
          kept = x.kept;
        }

-- ---- those of each plane, over any source

module _ {S : Type 0} (src : Source S) (p q : Plane) (n i j : ℕ) (w : S) where
  planes_lost : (two : Bool) {x : ℕ} {v : S} → run src (endpoint_indices p n i []) w ≡ refused x v
      → run src (plane_endpoints (row two p q) n (row two i j)) w ≡ refused x v
  unfolding plane_endpoints
  planes_lost two e = stop src _ _ w e

  planes-one : (two : Bool) {xs : List ℕ} (ys : List ℕ) {v : S} → two ≡ false → run src (endpoint_indices p n i []) w ≡ got xs v
      → run src (plane_endpoints (row two p q) n (row two i j)) w ≡ got (row two xs ys) v
  unfolding plane_endpoints
  planes-one two {xs} ys {v} h e = rw h (go_on src _ _ w e ∙ go_on src (answer []) (λ more. answer (xs ∷ more)) v
      (answered {A = List (List ℕ)} src [] v) ∙ answered src _ v)

  planes-then_lost : (two : Bool) {xs : List ℕ} {x : ℕ} {v u : S} → two ≡ true → run src (endpoint_indices p n i []) w ≡ got xs v
      → run src (endpoint_indices q n j []) v ≡ refused x u → run src (plane_endpoints (row two p q) n (row two i j)) w ≡ refused x u
  unfolding plane_endpoints
  planes-then_lost two {v = v} h e f = rw h (go_on src _ _ w e ∙ stop src _ _ v (stop src _ _ v f))

  planes-two : (two : Bool) {xs ys : List ℕ} {v u : S} → two ≡ true → run src (endpoint_indices p n i []) w ≡ got xs v
      → run src (endpoint_indices q n j []) v ≡ got ys u → run src (plane_endpoints (row two p q) n (row two i j)) w ≡ got (row two xs ys) u
  unfolding plane_endpoints
  planes-two two {xs} {ys} {v} {u} h e f =
      rw h (go_on src _ _ w e
      ∙ go_on src _ (λ more. answer (xs ∷ more)) v (go_on src _ _ v f ∙ go_on src (answer []) (λ more. answer (ys ∷ more)) u
      (answered {A = List (List ℕ)} src [] u) ∙ answered src _ u)
      ∙ answered src _ u)

lasts-row : (two : Bool) (i j : ℕ) (xs ys : List ℕ) {a b : ℕ} → last_or i xs ≡ a → (two ≡ true → last_or j ys ≡ b) → lasts (row two i j)
    (row two xs ys) ≡ row two a b
unfolding lasts
lasts-row true i j xs ys e f = rw (e, f refl)
lasts-row false i j xs ys e f = rw e

false_true : {b : Bool} {A : Type 0} → b ≡ false → b ≡ true → A
false_true e f = let z : ◌≡◌ {A = ℕ} 0 1 = cc in absurd (omega arith)

-- ---- the answer for all planes, by those for the first and the second

module _ {lookup sorted seg : List ℕ} (ps : Planes) {n e0 : ℕ} (e1 : ℕ) {s : Stream} {before mid : List ℕ} where
  pub tiles_lost : {y : Stop} → Tiled lookup sorted seg ps ps.first 0 n e0 s before mid (Err y)
      → AllTiled lookup sorted seg ps n e0 e1 s mid (Err y)
  tiles_lost x =
      record {
        same = λ cs c. sym (planes_lost (source seg) (plane_of cs ps.first) (plane_of cs ps.second) n e0 e1 (spending s) ps.two
            (sym (x.same cs c)));
        on = tt;
      }

  module _ {i : ℕ} {t : Stream} (x : Tiled lookup sorted seg ps ps.first 0 n e0 s before mid (Ok (i, t))) where
    pub tiles-one : ps.two ≡ false → e1 < most → AllTiled lookup sorted seg ps n e0 e1 s mid (Ok (i, e1, t))
    tiles-one h l =
        let g = x.on in
        record {
          same = λ cs c. sym (planes-one (source seg) (plane_of cs ps.first) (plane_of cs ps.second) n e0 e1 (spending s) ps.two
              (tiles_at 4 n mid) h (sym (x.same cs c)));
          on = (g.0, (g.1.0, (l, lasts-row ps.two e0 e1 (tiles_at 0 n mid) (tiles_at 4 n mid) g.1.1 (λ f. false_true h f))));
        }

    module _ (h : ps.two ≡ true) {after : List ℕ} where
      pub tiles-then_lost : {z : Stop} → Tiled lookup sorted seg ps ps.second 4 n e1 t mid after (Err z)
          → AllTiled lookup sorted seg ps n e0 e1 s after (Err z)
      tiles-then_lost y =
          record {
            same = λ cs c. sym (planes-then_lost (source seg) (plane_of cs ps.first) (plane_of cs ps.second) n e0 e1 (spending s) ps.two h
                (sym (x.same cs c)) (sym (y.same cs c)));
            on = tt;
          }

      pub tiles-two : {j : ℕ} {u : Stream} → Tiled lookup sorted seg ps ps.second 4 n e1 t mid after (Ok (j, u)) → n ≤ 4
          → length after ≡ length mid → AllTiled lookup sorted seg ps n e0 e1 s after (Ok (i, j, u))
      tiles-two {j} {u} y l k =
          let g = x.on in
          let r = y.on in
          let q = kept-tiles 4 0 n mid after (omega arith) k y.kept in
          record {
            same = λ cs c.
                sym (planes-two (source seg) (plane_of cs ps.first) (plane_of cs ps.second) n e0 e1 (spending s) ps.two h
                (sym (x.same cs c) ∙ ap (λ (xs : List ℕ). got xs (spending t)) (sym q)) (sym (y.same cs c)));
            on = (
              r.0,
              (
                g.1.0,
                (
                  r.1.0,
                  lasts-row ps.two e0 e1 (tiles_at 0 n after) (tiles_at 4 n after) (ap (last_or e0) q ∙ g.1.1)
                      (λ _. r.1.1),
                ),
              ),
            );
          }
