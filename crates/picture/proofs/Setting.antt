-- One word more, and a part that is copied to. Assumes nothing.
use Prim.Native.Nat.{ℕ, ◌+◌, ◌*◌, ◌/◌, ◌<◌, ◌≤◌}
use mathlib.Core.Path.{◌≡◌, refl, sym, ap, ◌∙◌}
use mathlib.Core.List.{List, [], ◌∷◌, ◌++◌, append_assoc, append-nil}
use native.Mathlib.Omega.{arith}
use native.Mathlib.Numerals.{add-one}
use lib.ListN.{length, get_or, take, drop}
use lib.Seq.{sets, sets-eq, take-suc, length-take-le, drop-drop}
use borrow.Rule.Slice.PartMut.{put_mid}
use Rattle.std.specs.Int.{w32, to_le_bytes}
use Rattle.crn_format.specs.Grid.{little}
use Rattle.crn_blocks.proofs.Places.{sets-append}
use Rattle.picture.specs.Words.{words_of}
use Rattle.picture.proofs.Words.{words_long}

words_append : (us vs : List ℕ) → words_of (us ++ vs) ≡ words_of us ++ words_of vs
unfolding words_of
words_append [] vs = refl
words_append (u ∷ us) vs = ap (λ (l : List ℕ). little 4 u ++ l) (words_append us vs) ∙ sym (append_assoc (little 4 u) (words_of us)
    (words_of vs))

-- a word's bytes, lowest first
low_first : (w : ℕ) → to_le_bytes w32 w ≡ little 4 w
unfolding little
low_first w =
    let second : w / 256 / 256 ≡ w / 65536 = omega arith in
    let third : w / 65536 / 256 ≡ w / 16777216 = omega arith in
    rw (second, third)

-- one word more
pub one_word : (d ws : List ℕ) (at i : ℕ) → i < length ws → {before bytes after : List ℕ} → before ≡ sets d at (words_of (take i ws))
    → after ≡ sets before (at + 4 * i) bytes → bytes ≡ to_le_bytes w32 (get_or ws i 0) → after ≡ sets d at (words_of (take (i + 1) ws))
unfolding words_of
one_word d ws at i h so put is =
    let long : length (words_of (take i ws)) ≡ 4 * i = words_long (take i ws) ∙ ap (λ (n : ℕ). 4 * n) (length-take-le i ws (omega arith)) in
    let more : words_of (take (i + 1) ws) ≡ words_of (take i ws) ++ little 4 (get_or ws i 0) =
    rw (add-one, take-suc ws i 0 h, words_append (take i ws) (get_or ws i 0 ∷ []), append-nil (little 4 (get_or ws i 0)))
    in
    rw (put, so, is ∙ low_first (get_or ws i 0), more, sets-append (words_of (take i ws)) (little 4 (get_or ws i 0)) d at, long)

-- a part as long as what is copied to it
pub copied : (a k : ℕ) (xs ys : List ℕ) → k ≡ length ys → a + length ys ≤ length xs → put_mid a k xs ys ≡ sets xs a ys
copied a k xs ys e fits = rw (e, sets-eq ys xs a fits, drop-drop) (sym (append_assoc (take a xs) ys (drop (a + length ys) xs)))
