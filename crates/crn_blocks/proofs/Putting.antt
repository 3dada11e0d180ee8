-- A block put in its place by one or two stores of eight bytes, and a row of blank blocks at once. Assumes nothing.
use mathlib.Core.Path.{◌≡◌, refl, sym, ap, ap₂, ◌∙◌}
use mathlib.Core.List.{List, ◌++◌, append_assoc}
use Prim.Native.Nat.{ℕ, zero, suc, ◌+◌, ◌*◌, ◌≤◌}
use native.Mathlib.Nat.{zero-mul, suc-mul}
use native.Mathlib.Omega.{arith}
use borrow.Rule.Slice.PartMut.{put_mid}
use lib.ListN.{length, take, drop, replicate, length-drop, length-replicate}
use lib.Seq.{sets, length-take-le}
use Rattle.std.proofs.lemmas.List.{replicate-append-replicate}
use Rattle.std.proofs.lemmas.List.Edits.{sets-eq, paste_all}
use Rattle.std.proofs.lemmas.Slice.{put_mid-paste}
use Rattle.crn_format.specs.Grid.{place_of, little, blank, row_painted}
use Rattle.crn_format.specs.declared.Grid.{Grid}
use Rattle.crn_blocks.proofs.Places.{sets-append}

-- a part of a slice that is written at once
pub part-put : (d e : List ℕ) (at k : ℕ) → k ≡ length e → at + k ≤ length d → put_mid at k d e ≡ sets d at e
part-put d e at k long room =
    let fits : at + length e ≤ length d = omega arith in
    put_mid-paste at k d e e k refl refl long ∙ paste_all d at e k long
    ∙ rw (sets-eq e d at fits, append_assoc, long) refl

-- eight bytes, and eight more after them
pub put_both : (d : List ℕ) {e h bs : List ℕ} (at lo hi : ℕ) → e ≡ sets d at (little 8 lo) → h ≡ sets e (at + 8) (little 8 hi) → little 8 lo
    ++ little 8 hi ≡ bs
    → h ≡ sets d at bs
unfolding little
put_both d at lo hi one two is =
    two ∙ ap (λ (t : List ℕ). sets t (at + 8) (little 8 hi)) one ∙ sym (sets-append (little 8 lo) (little 8 hi) d at) ∙ ap (sets d at) is

-- ---- a row of blocks, blank: its blocks stand together

blanks : (g : Grid) (f y x : ℕ) (d : List ℕ) → row_painted g (blank g) f y x d ≡ sets d (place_of g f 0 y) (replicate (x * g.bytes) 0)
unfolding row_painted
blanks g f y zero d = rw zero-mul refl
blanks g f y (suc x) d =
    let first : List ℕ = replicate (x * g.bytes) 0 in
    let here : place_of g f x y ≡ place_of g f 0 y + length first = rw length-replicate (omega (arith, zero-mul g.bytes)) in
    let all : first ++ replicate g.bytes 0 ≡ replicate (suc x * g.bytes) 0 = rw (suc-mul x g.bytes) (replicate-append-replicate (x * g.bytes)
    g.bytes 0) in
    ap₂ (λ (e : List ℕ) (at : ℕ). sets e at (replicate g.bytes 0)) (blanks g f y x d) here
    ∙ sym (sets-append first (replicate g.bytes 0) d (place_of g f 0 y)) ∙ ap (sets d (place_of g f 0 y)) all

-- the k bytes from `at` on, zeroed at once
pub row_blank : (g : Grid) (f y : ℕ) (d e : List ℕ) (at k : ℕ) → at ≡ place_of g f 0 y → k ≡ g.columns * g.bytes → at + k ≤ length d
    → e ≡ replicate (length (take k (drop at d))) 0 → put_mid at k d e ≡ row_painted g (blank g) f y g.columns d
row_blank g f y d e at k from long room zeros =
    let many : length (take k (drop at d)) ≡ k = length-take-le k (drop at d) (rw length-drop (omega arith)) in
    let zeroed : e ≡ replicate k 0 = zeros ∙ ap (λ (n : ℕ). replicate n 0) many in
    part-put d e at k (rw (zeroed, length-replicate) refl) room ∙ rw (zeroed, from, long) (sym (blanks g f y g.columns d))
