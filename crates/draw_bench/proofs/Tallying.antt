-- A turn of the tally.
use Rattle.std.proofs.Common.{◌≡◌, ℕ, suc, ◌+◌, ◌-◌, ◌%◌, ◌^◌, ◌<◌, ◌≤◌, List, sym, ap, ◌∙◌, arith}
use Rattle.crn_format.specs.Reading.{a_symbol, spot, start, run, from_bits}
use Rattle.crn_format.proofs.Steps.{answered}
use Rattle.crn_symbol_codec.specs.Cursors.{place, Holds}
use Rattle.crn_symbol_codec.specs.Taking.{Takes}
use Rattle.crn_symbol_codec.specs.declared.Cursor.{Cursor}
use Rattle.std.specs.Prelude.{Ok, Err}
use Rattle.crn_symbol_codec.specs.Taking.{Taken}
use Rattle.crn_format.specs.declared.Refusal.{Refusal}
use Rattle.crn_symbol_codec.proofs.Serving.{taken-value, taken-failed, taken-holds}
use Rattle.draw_bench.specs.Tally.{tally, tallied, total}

-- after k draws: what is left to be drawn from here is the whole
pub record Tallied (ls seg : List ℕ) (n : ℕ) (c : Cursor) (sum k : ℕ) : Type 0 where
  pub far : k ≤ n
  pub holds : Holds seg c
  pub same : run (from_bits seg) (tally ls (n - k) sum) (spot (place c) 0) ≡ run (from_bits seg) (tally ls n 0) start

split : (n k : ℕ) → k < n → n - k ≡ suc (n - (k + 1))
split n k h = omega arith

pub begins : (ls seg : List ℕ) (n : ℕ) (c : Cursor) → Holds seg c → place c ≡ 0 → Tallied ls seg n c 0 0
begins ls seg n c h e =
    record {
      far = omega arith;
      holds = h;
      same =
          ap (λ (m : ℕ). run (from_bits seg) (tally ls m 0) (spot (place c) 0)) (nothing n)
          ∙ ap (λ (p : ℕ). run (from_bits seg) (tally ls n 0) (spot p 0)) e;
    }
  where
    nothing : (n : ℕ) → n - 0 ≡ n
    nothing n = omega arith

module _ (ls seg : List ℕ) (n : ℕ) (c : Cursor) (sum k : ℕ) (i : Tallied ls seg n c sum k) where
  pub done : n ≤ k → sum ≡ total ls seg n
  unfolding tally
  done h =
      let e : n - k ≡ 0 = omega arith in
      ap tallied (sym (answered (from_bits seg) sum (spot (place c) 0)) ∙ rw e at i.same)

  module _ (h : k < n) (r : Taken) (t : Takes seg (a_symbol ls) c r) where
    pub fails : (m : Refusal) → r ≡ Err m → 0 ≡ total ls seg n
    unfolding tally
    fails m e = ap tallied (sym (taken-failed t (λ s. tally ls (n - (k + 1)) ((sum + s) % 2 ^ 64)) 0 e) ∙ rw (split n k h) at i.same)

    pub more : (s : ℕ) (d : Cursor) → r ≡ Ok (s, d) → Tallied ls seg n d ((sum + s) % 2 ^ 64) (k + 1)
    unfolding tally
    more s d e =
        record {
          far = omega arith;
          holds = taken-holds t e;
          same = sym (taken-value t (λ s. tally ls (n - (k + 1)) ((sum + s) % 2 ^ 64)) 0 e) ∙ rw (split n k h) at i.same;
        }
