-- A draw from a cursor that has 16 bits or all that are left, by the code that its bits begin with.
use Prim.Native.Nat.{ℕ, ◌+◌, ◌-◌, ◌/◌, ◌%◌, ◌^◌, ◌<◌, ◌≤◌}
use mathlib.Core.List.{List}
use mathlib.Core.Path.{◌≡◌, refl, sym, ap, ◌∙◌}
use native.Mathlib.Omega.{arith}
use lib.ListN.{length, get_or, take, drop}
use borrow.Author.Tests.{le-leb, lt-leb}
use Rattle.crn_format.specs.Bits.{bit_count, spelled}
use Rattle.crn_format.specs.Codes.{symbol_at}
use Rattle.crn_symbol_codec.specs.declared.Cursor.{Cursor}
use Rattle.std.specs.Prelude.{Ok, Err}
use Rattle.crn_format.specs.declared.Refusal.TheVariants.{Ended, NoSymbol}
use Rattle.crn_symbol_codec.specs.Cursors.{place, past, Holds, Enough}
use Rattle.crn_symbol_codec.specs.Decoders.{width_in, longest_in, counts_in, front, found_in, Usable}
use Rattle.crn_symbol_codec.specs.Drawing.{walked, Draws}
use Rattle.crn_symbol_codec.proofs.Cut.{cut_lt}
use Rattle.crn_symbol_codec.proofs.Holding.{window, place-past, after-drop}
use Rattle.crn_symbol_codec.proofs.Walking.{walk_done}
use Rattle.crn_symbol_codec.proofs.Finding.{if_there, rest_from, hit, miss}
use Rattle.crn_symbol_codec.proofs.Seeking.{within-entries, entry-short, short-found}

module _ {lookup sorted seg : List ℕ} {c : Cursor} (h : Holds seg c) (enough : Enough seg c 16) (u : Usable lookup sorted) where
  fits : c.bits < 2 ^ 64
  fits = rw h.same (cut_lt seg h.end (place c) 64)

  firsts : (j : ℕ) → j ≤ longest_in lookup → front 64 c.bits j ≡ spelled seg (place c) j
  firsts j l = window seg c j h enough (omega (arith, u.most))

  -- ---- where the bits begin with a code

  module _ (e : ℕ) (is : e ≡ found_in lookup sorted c.bits) (some : e ≡ 0 → ⊥) where
    said : (walked lookup sorted seg (place c) ≡ if_there seg (place c) (e / 64) (e % 64)) × (0 < e % 64) × (e % 64 ≤ longest_in lookup)
    said = hit (counts_in lookup) sorted seg (place c) (longest_in lookup) (longest_in lookup) (omega arith) (front 64 c.bits) firsts e
        (omega (arith, u.most)) is some

    pub found-length : e % 64 ≤ 16
    found-length = omega (arith, said.2, u.most)

    pub found-ended : c.have < e % 64 → Draws lookup sorted seg c (Err Ended)
    found-ended l =
        let n : length seg ≤ c.next = enough (omega (arith, found-length)) in
        let k : bit_count seg < place c + e % 64 = omega (arith, h.behind) in
        record { same = sym (said.0 ∙ simp (lt-leb _ _ k)); holds = tt; near = tt }

    pub found-drawn : e % 64 ≤ c.have → Draws lookup sorted seg c (Ok ((e / 64), (past c (e % 64))))
    found-drawn l =
        let k : place c + e % 64 ≤ bit_count seg = omega (arith, h.behind, h.within) in
        record {
          same = ap (symbol_at (e / 64)) (place-past h l) ∙ sym (said.0 ∙ simp (le-leb _ _ k));
          holds = after-drop h l;
          near = (refl, omega (arith, found-length));
        }

  -- ---- where they begin with none

  module _ (none : found_in lookup sorted c.bits ≡ 0) where
    passed : walked lookup sorted seg (place c) ≡ rest_from (counts_in lookup) sorted seg (place c) (longest_in lookup) (longest_in lookup)
    passed = miss (counts_in lookup) sorted seg (place c) (longest_in lookup) (longest_in lookup) (omega arith) (front 64 c.bits) firsts
        (omega (arith, h.within, h.behind)) none

    pub none-short : c.have < longest_in lookup → Draws lookup sorted seg c (Err Ended)
    none-short l =
        let n : length seg ≤ c.next = enough (omega (arith, u.most)) in
        let k : bit_count seg < place c + longest_in lookup = omega (arith, h.behind) in
        record { same = sym (passed ∙ simp (lt-leb _ _ k)); holds = tt; near = tt }

    pub none_begins : longest_in lookup ≤ c.have → Draws lookup sorted seg c (Err NoSymbol)
    none_begins l =
        let k : place c + longest_in lookup ≤ bit_count seg = omega (arith, h.within, h.behind) in
        record {
          same = sym (passed ∙ simp (le-leb _ _ k) (walk_done (counts_in lookup) sorted seg (place c) (longest_in lookup)
              (longest_in lookup) _ _ (omega arith)));
          holds = tt;
          near = tt;
        }

  -- ---- the entry of the first bits, where it is not 0

  pub in_entries : 32 + c.bits / 2 ^ (64 - width_in lookup) < length lookup
  in_entries = within-entries u c.bits fits

  module _ (e : ℕ) (is : e ≡ get_or (take (length lookup - 32) (drop 32 lookup)) (c.bits / 2 ^ (64 - width_in lookup)) 0) (some : e ≡ 0 → ⊥)
    where
      found : e ≡ found_in lookup sorted c.bits
      found =
          let short = is ∙ entry-short u c.bits fits in
          short ∙ short-found u c.bits (λ z. some (short ∙ z))

      pub entry_length : e % 64 ≤ 16
      entry_length = found-length e found some

      pub entry_found : e % 64 ≤ c.have → Draws lookup sorted seg c (Ok ((e / 64), (past c (e % 64))))
      entry_found l = found-drawn e found some l
