-- The header look: the header as read, or 1, 2 or 3, by which an opening is refused too.
use Prim.Native.Nat.{ℕ}
use mathlib.Core.Bool.{Bool, true, false}
use mathlib.Core.Logic.{◌⊎◌, inl, inr}
use mathlib.Core.List.{List, [], ◌∷◌}
use mathlib.Core.Path.{◌≡◌, refl}
use native.Mathlib.Omega.{arith}
use Rattle.crn_format.specs.Choice.{pick}
use Rattle.crn_format.specs.Header.{header_of, within_limits, sizes_hold, signed}
use Rattle.crn_format.specs.Look.{found, no, look_at, look_of}
use Rattle.crn_format.specs.declared.Header.{Header}
use Rattle.crn_format.specs.declared.Looked.{Looked}
use Rattle.crn_format.proofs.LookAndOpen.{look-passes, look_refuses}
use Rattle.crn_laws_total.specs.Refusals.{among}
use Rattle.crn_promises.specs.Promises.{LookTotal}

record Numbered (a : Looked) : Type 0 where
  number : (a.refusal ≡ 0) ⊎ (among a.refusal (1 ∷ 2 ∷ 3 ∷ []) ≡ true)
  other : (a.refusal ≡ 0 → ⊥) → a ≡ no a.refusal

three : (h : Header) (a b c : Bool) → Numbered (pick a (pick b (pick c (found h) (no 3)) (no 2)) (no 1))
three h true true true = record { number = inl refl; other = λ f. absurd (f refl) }
three h true true false = record { number = inr refl; other = λ _. refl }
three h true false c = record { number = inr refl; other = λ _. refl }
three h false b c = record { number = inr refl; other = λ _. refl }

pub look-total : (file : List ℕ) (a : Looked) → a ≡ look_of file → LookTotal file a
look-total file a is =
    rw is (record {
      number = n.number;
      accepted = λ z. (look-passes file z).0;
      refused = λ f. (n.other f, (λ lent. look_refuses file lent (omega arith)));
    })
  where
    n : Numbered (look_of file)
    n = unfold look_at in three (header_of file) (signed file) (within_limits (header_of file)) (sizes_hold file (header_of file))
