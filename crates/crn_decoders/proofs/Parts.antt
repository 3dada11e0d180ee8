-- A part of a list is written anew: there it is, and the parts before it stay.
use Prim.Native.Nat.{ℕ, ◌+◌, ◌*◌, ◌-◌, ◌≤◌, ◌<◌}
use mathlib.Core.List.{List, ◌++◌}
use mathlib.Core.Path.{◌≡◌, sym, ap, ◌∙◌}
use native.Mathlib.Omega.{arith}
use lib.ListN.{length, take, drop, take-append-drop, length-drop}
use lib.Seq.{length-take-le, take_at, drop_at, take-append-le, drop-append-le}
use Rattle.crn_chunks.specs.Meaning.{part}
use Rattle.crn_blocks.proofs.Places.{further}

module _ (n : ℕ) (xs : List ℕ) (k : ℕ) (fits : k * n + n ≤ length xs) where
  front_long : length (take (k * n) xs) ≡ k * n
  front_long = length-take-le (k * n) xs (omega arith)

  -- the part as the code takes it
  pub taken-long : length (take (k * n + n - k * n) (drop (k * n) xs)) ≡ n
  taken-long =
      let e : k * n + n - k * n ≡ n = omega arith in
      rw e (length-take-le n (drop (k * n) xs) (omega (arith, length-drop (k * n) xs)))

  pub part-here : (ys zs : List ℕ) → length ys ≡ n → part n (take (k * n) xs ++ (ys ++ zs)) k ≡ ys
  part-here ys zs long = ap (take n) (drop_at (take (k * n) xs) (ys ++ zs) (k * n) front_long) ∙ take_at ys zs n long

  module _ (j : ℕ) (h : j < k) where
    -- what follows has no say
    front : (zs : List ℕ) → part n (take (k * n) xs ++ zs) j ≡ part n (take (k * n) xs) j
    front zs =
        let f : j * n + n ≤ k * n = further n h in
        ap (take n) (drop-append-le (j * n) (take (k * n) xs) zs (omega (arith, front_long)))
        ∙ take-append-le n (drop (j * n) (take (k * n) xs)) zs (omega (arith, front_long, length-drop (j * n) (take (k * n) xs)))

    pub part-before : (zs : List ℕ) → part n (take (k * n) xs ++ zs) j ≡ part n xs j
    part-before zs =
        front zs ∙ sym (front (drop (k * n) xs)) ∙ ap (λ (l : List ℕ). part n l j) (take-append-drop (k * n) xs)
