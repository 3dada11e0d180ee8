-- Indices by the quick way, one after the other: those of the tiles and those of the positions.
use Prim.Native.Nat.{ℕ, ◌+◌, ◌-◌, ◌≤◌, ◌<◌}
use mathlib.Core.Bool.{Bool, true, false}
use mathlib.Core.List.{List, []}
use mathlib.Core.Path.{◌≡◌, refl, sym, ap, ◌∙◌}
use native.Mathlib.Omega.{arith}
use lib.ListN.{length, get_or, set, drop}
use Rattle.crn_format.specs.Reading.{spot, run}
use Rattle.crn_format.specs.Level.{endpoint_indices, position_selectors}
use Rattle.crn_symbol_codec.specs.Cursors.{place, Holds}
use Rattle.crn_symbol_codec.specs.declared.Cursor.{Cursor}
use Rattle.crn_chunks.specs.Meaning.{source, row, plane_of, planes, most}
use Rattle.crn_chunks.specs.Parts.{Drew, Tiled, rows_to}
use Rattle.crn_chunks.specs.Reads.{inside_of}
use Rattle.crn_chunks.specs.declared.Side.{Side}
use Rattle.crn_chunks.specs.declared.Planes.{Planes}
use Rattle.crn_chunks.proofs.Tiling.{Tiling, tiling_none, tiling_more, tiling_done, tiles-one, tiles-two}
use Rattle.crn_chunks.proofs.Picking.{Picking, picking_none, picking_more, picking_done, picks_one, picks_two}
use Rattle.crn_chunks.specs.declared.Carried.{Carried}
use Rattle.crn_chunks.specs.declared.Stream.{Stream}
use Rattle.crn_quick.specs.Quick.{stream_at, each, Both, Stepped, PlaneTiles, PlanesTiles, Picked, PickedAll}

pub each-one : {two : Bool} (n : ℕ) → two ≡ false → each two n ≡ n
each-one n h = rw h

pub each_two : {two : Bool} (n : ℕ) → two ≡ true → each two n ≡ n + n
each_two n h = rw h

-- ---- k of a plane's n tiles done, from a cursor

pub record Tilings (lookup sorted seg : List ℕ) (ps : Planes) (p : Side) (base n i : ℕ) (c : Cursor) (b l m : ℕ) (before out : List ℕ)
    (at : Cursor) (last k : ℕ) : Type 0 where
  pub blamed : ℕ
  pub tiling : Tiling lookup sorted seg ps p base n i (stream_at c b l) before out (stream_at at blamed m) last k

abbrev pub QuickTiling : List ℕ → List ℕ → List ℕ → Planes → Side → ℕ → ℕ → ℕ → Cursor → List ℕ → List ℕ → Cursor → ℕ → ℕ → Type 0
QuickTiling lookup sorted seg ps p base n i c before out at last k =
    (b l m : ℕ) → l ≡ m + k → Tilings lookup sorted seg ps p base n i c b l m before out at last k

module _ {lookup sorted seg : List ℕ} {ps : Planes} {p : Side} {base n i : ℕ} {c : Cursor} where
  pub quick_none : (before : List ℕ) → Holds seg c → i < most → QuickTiling lookup sorted seg ps p base n i c before before c i 0
  quick_none before h a b l m e =
      let f : l ≡ m = omega arith in
      record { blamed = b; tiling = rw f (tiling_none before h a) }

  module _ {before out : List ℕ} {at : Cursor} {last k : ℕ} (x : QuickTiling lookup sorted seg ps p base n i c before out at last k) where
    -- one instance has what does not depend on the budget
    pub quick_now : Tiling lookup sorted seg ps p base n i (stream_at c 0 k) before out (stream_at at (x 0 k 0 (omega arith)).blamed 0) last
        k
    quick_now = (x 0 k 0 (omega arith)).tiling

    pub quick_more : {d : Cursor} {j len : ℕ} → k < n → Stepped lookup sorted seg ps p.ends p.endpoints true last at d j len
        → base + n ≤ length before → QuickTiling lookup sorted seg ps p base n i c before (set out (base + k) j) d j (k + 1)
    quick_more more s room b l m f =
        let y = x b l (m + 1) (omega arith) in
        record { blamed = place at; tiling = tiling_more y.tiling more (s.drawn y.blamed (m + 1) m refl) room }

    pub quick_done : n ≤ k → k ≤ n → PlaneTiles lookup sorted seg ps p base n i c before out at last
    quick_done u w b l m f =
        let y = x b l m (omega arith) in
        record { blamed = y.blamed; tiled = tiling_done y.tiling u }

-- ---- the tiles of each plane

-- from another cursor at the same place
tiles-moved : {lookup sorted seg : List ℕ} {ps : Planes} {p : Side} {base n i : ℕ} {c d : Cursor} {b l : ℕ} {before after : List ℕ}
    {a : Drew} → place d ≡ place c
    → Tiled lookup sorted seg ps p base n i (stream_at d b l) before after a → Tiled lookup sorted seg ps p base n i (stream_at c b l)
    before after a
tiles-moved {seg = seg} {p = p} {n = n} {i = i} {b = b} {l = l} e t =
    record {
      same = λ cs k. t.same cs k ∙ ap (λ (z : ℕ). run (source seg) (endpoint_indices (plane_of cs p) n i [])
          (record { place = spot z b; left = l })) e;
      on = t.on;
      kept = t.kept;
    }

-- c0 is the cursor c, filled, and d0 the one after the first plane's, d
module _ {lookup sorted seg : List ℕ} (ps : Planes) {n e0 e1 : ℕ} {c c0 d : Cursor} {before mid : List ℕ} {i : ℕ} (at : place c0 ≡ place c)
    (x : PlaneTiles lookup sorted seg ps ps.first 0 n e0 c0 before mid d i) where
  pub tiled-one : ps.two ≡ false → e1 < most → PlanesTiles lookup sorted seg ps n e0 e1 c mid d i e1
  tiled-one h o b l m f =
      let y = x b l m (f ∙ ap (λ (v : ℕ). m + v) (each-one n h)) in
      record { blamed = y.blamed; tiled = tiles-one ps e1 (tiles-moved at y.tiled) h o }

  pub tiled-two : {d0 e : Cursor} {after : List ℕ} {j : ℕ} → ps.two ≡ true → place d0 ≡ place d
      → PlaneTiles lookup sorted seg ps ps.second 4 n e1 d0 mid after e j
      → n ≤ 4 → length after ≡ length mid → PlanesTiles lookup sorted seg ps n e0 e1 c after e i j
  tiled-two h at0 y few long b l m f =
      let v = x b l (m + n) (f ∙ ap (λ (w : ℕ). m + w) (each_two n h) ∙ omega arith) in
      let w = y v.blamed (m + n) m refl in
      record { blamed = w.blamed; tiled = tiles-two ps e1 (tiles-moved at v.tiled) h (tiles-moved at0 w.tiled) few long }

-- ---- a position

module _ {lookup sorted seg : List ℕ} (ps : Planes) (inside : Bool) (s0 s1 : ℕ) {c d : Cursor} {i len : ℕ}
    (x : Stepped lookup sorted seg ps ps.first.sels ps.first.selectors inside s0 c d i len) where
  pub picked-one : ps.two ≡ false → Picked lookup sorted seg ps inside s0 s1 c d i 0 len
  picked-one h =
      record {
        picked = λ b l m f.
            let q : place d - len ≡ place c = omega (arith, x.passed) in
            rw q (picks_one ps inside s0 s1 (x.drawn b l m (f ∙ ap (λ (z : ℕ). m + z) (each-one 1 h))) h);
        passed = omega (arith, x.passed);
      }

  pub picked-two : {e : Cursor} {j n : ℕ} → ps.two ≡ true
      → Stepped lookup sorted seg ps ps.second.sels ps.second.selectors inside s1 d e j n
      → Picked lookup sorted seg ps inside s0 s1 c e i j n
  picked-two {e} {j} {n} h y =
      record {
        picked = λ b l m f.
            let q : place e - n ≡ place d = omega (arith, y.passed) in
            rw q (picks_two ps inside s0 s1 (x.drawn b l (m + 1) (f ∙ ap (λ (z : ℕ). m + z) (each_two 1 h) ∙ omega arith)) h
            (y.drawn (place c) (m + 1) m refl));
        passed = omega (arith, y.passed);
      }

-- ---- k of the four positions done, from a cursor

pub record Pickings (lookup sorted seg : List ℕ) (ps : Planes) (right bottom : Bool) (s0 s1 : ℕ) (c : Cursor) (b l m : ℕ)
    (before out : List ℕ) (at : Cursor) (i0 i1 len k : ℕ) : Type 0 where
  pub blamed : ℕ
  pub picking : Picking lookup sorted seg ps right bottom s0 s1 (stream_at c b l) before out (stream_at at blamed m) i0 i1 k
  pub behind : 0 < k → blamed ≡ place at - len

pub record QuickPicking (lookup sorted seg : List ℕ) (ps : Planes) (right bottom : Bool) (s0 s1 : ℕ) (c : Cursor) (before out : List ℕ)
    (at : Cursor) (i0 i1 len k : ℕ) : Type 0 where
  pub going : (b l m : ℕ) → l ≡ m + each ps.two k → Pickings lookup sorted seg ps right bottom s0 s1 c b l m before out at i0 i1 len k
  pub passed : len ≤ place at

-- one position more of the budget
each_more : (two : Bool) (k m l : ℕ) → l ≡ m + each two (k + 1) → l ≡ (m + each two 1) + each two k
each_more true k m l e = omega arith
each_more false k m l e = omega arith

module _ {lookup sorted seg : List ℕ} {ps : Planes} {right bottom : Bool} {s0 s1 : ℕ} {c : Cursor} where
  pub picks_none : (before : List ℕ) → Holds seg c → s0 < most → s1 < most → QuickPicking lookup sorted seg ps right bottom s0 s1 c before
      before c s0 s1 0 0
  picks_none before h f g =
      record {
        going = λ b l m e.
            let q : l ≡ m = none ps.two e in
            record { blamed = b; picking = rw q (picking_none before h f g); behind = λ z. absurd (omega arith) };
        passed = omega arith;
      }
    where
      none : (two : Bool) {l m : ℕ} → l ≡ m + each two 0 → l ≡ m
      none true e = omega arith
      none false e = omega arith

  module _ {before out : List ℕ} {at : Cursor} {i0 i1 len k : ℕ}
      (x : QuickPicking lookup sorted seg ps right bottom s0 s1 c before out at i0 i1 len k) where
    pub picks_now : Picking lookup sorted seg ps right bottom s0 s1 (stream_at c 0 (each ps.two k)) before out
        (stream_at at (x.going 0 (each ps.two k) 0 (omega arith)).blamed 0) i0 i1 k
    picks_now = (x.going 0 (each ps.two k) 0 (omega arith)).picking

    pub picks_more : {d q : Cursor} {i j n : ℕ} → Holds seg d → place d ≡ place at → k < 4
        → Picked lookup sorted seg ps (get_or (inside_of right bottom) k true) i0 i1 d q i j n → length before ≡ 16
        → QuickPicking lookup sorted seg ps right bottom s0 s1 c before (set (set out (8 + k) i) (12 + k) j) q i j n (k + 1)
    picks_more {d} {q} {n = n} h e more s room =
        record {
          going = λ b l m f.
              let y = x.going b l (m + each ps.two 1) (each_more ps.two k m l f) in
              let t = y.picking in
              let moved : Picking lookup sorted seg ps right bottom s0 s1 (stream_at c b l) before out
              (stream_at d y.blamed (m + each ps.two 1)) i0 i1 k =
              record {
                some = t.some;
                holds = h;
                below = t.below;
                final = t.final;
                long = t.long;
                kept = t.kept;
                left = λ cs z. t.left cs z
                    ∙ ap (λ (w : ℕ). run (source seg) (position_selectors (planes cs ps) (drop k (inside_of right bottom))
                    (row ps.two i0 i1) (rows_to ps.two out k)) (record { place = spot w y.blamed; left = m + each ps.two 1 })) (sym e);
              } in
              record {
                blamed = place q - n;
                picking = picking_more moved more refl (s.picked y.blamed (m + each ps.two 1) m refl) room;
                behind = λ z. refl;
              };
          passed = s.passed;
        }

    pub picks_done : 4 ≤ k → PickedAll lookup sorted seg ps (inside_of right bottom) s0 s1 c before out at i0 i1 len
    picks_done h =
        record {
          picked = λ b l m f.
              let some : k ≤ 4 = picks_now.some in
              let q : k ≡ 4 = omega arith in
              let y = x.going b l m (f ∙ ap (λ (z : ℕ). m + each ps.two z) (sym q)) in
              rw (y.behind (omega arith)) at (picking_done y.picking h);
          passed = x.passed;
        }

-- ---- the positions of one plane

module _ {lookup sorted seg : List ℕ} {ps : Planes} {which size i : ℕ} {c d : Cursor} {j len : ℕ}
    (x : (inside : Bool) → Stepped lookup sorted seg ps which size inside i c d j len) where
  pub stepped-holds : Holds seg d
  stepped-holds = ((x true).drawn 0 1 0 refl).on.0

  pub stepped-small : j < most
  stepped-small = let a = ((x true).drawn 0 1 0 refl).on.1 in omega arith

pub single_more : {lookup sorted seg : List ℕ} (ps : Planes) (right bottom : Bool) {s0 s1 : ℕ} {c : Cursor} {before out : List ℕ}
    {at : Cursor} {i0 i1 len : ℕ} (k : ℕ) {d q : Cursor} {i n : ℕ} → ps.two ≡ false → length before ≡ 16
    → QuickPicking lookup sorted seg ps right bottom s0 s1 c before out at i0 i1 len k → Holds seg d → place d ≡ place at → k < 4
    → ((inside : Bool) → Stepped lookup sorted seg ps ps.first.sels ps.first.selectors inside i0 d q i n)
    → QuickPicking lookup sorted seg ps right bottom s0 s1 c before (set (set out (8 + k) i) (12 + k) 0) q i 0 n (k + 1)
single_more ps right bottom {i0 = i0} {i1 = i1} k one room x h e more y =
    picks_more x h e more (picked-one ps (get_or (inside_of right bottom) k true) i0 i1 (y (get_or (inside_of right bottom) k true)) one)
    room

-- ---- tiles and positions

-- what is left of the budget
spent : (two : Bool) (n all l : ℕ) → n ≤ 4 → 16 ≤ all → l ≡ all - each two (n + 4) → all ≡ l + each two 4 + each two n
spent true n all l a b e = omega arith
spent false n all l a b e = omega arith

pub both_read : {lookup sorted seg : List ℕ} (ps : Planes) {n : ℕ} (right bottom : Bool) (r : Carried) (s : Stream) {mid out : List ℕ}
    {d e : Cursor} {e0 e1 s0 s1 len : ℕ} → PlanesTiles lookup sorted seg ps n r.e0 r.e1 s.cursor mid d e0 e1
    → PickedAll lookup sorted seg ps (inside_of right bottom) r.s0 r.s1 d mid out e s0 s1 len
    → length out ≡ length mid → n ≤ 4 → 16 ≤ s.left → {b l : ℕ} → b ≡ place e - len → l ≡ s.left - each ps.two (n + 4)
    → Both lookup sorted seg ps n right bottom r s out e0 e1 s0 s1 (stream_at e b l)
both_read ps {n} right bottom r s {mid} {d = d} x y long few room {b} {l} p q =
    let a = x s.blamed s.left (l + each ps.two 4) (spent ps.two n s.left l few room q) in
    let w = y.picked a.blamed (l + each ps.two 4) l refl in
    record { mid = mid; between = stream_at d a.blamed (l + each ps.two 4); long = long; tiled = a.tiled; picked = rw p w }
