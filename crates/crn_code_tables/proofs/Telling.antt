-- What the answers of the functions that receive a table say of a run.
use Prim.Native.Nat.{ℕ}
use mathlib.Core.Bool.{true, false}
use mathlib.Core.List.{List, []}
use mathlib.Core.Path.{◌≡◌, sym, ap, ◌∙◌}
use lib.ListN.{replicate}
use Rattle.std.specs.Prelude.{Ok, Err}
use Rattle.std.specs.Result.{is_err}
use Rattle.std.specs.declared.result.Result.{Result}
use Rattle.crn_format.specs.Limits.{max_symbols}
use Rattle.crn_format.specs.Reading.{Want, Reading, want, Step, then, Place, spot, run, from_bits, served}
use Rattle.crn_format.specs.Tables.{table}
use Rattle.crn_format.specs.Opening.{table_of}
use Rattle.crn_format.specs.Unpacking.{lengths_of}
use Rattle.crn_format.specs.declared.Fault.{Fault}
use Rattle.crn_format.specs.declared.Refusal.{Refusal}
use Rattle.crn_format.specs.declared.Table.{Table}
use Rattle.crn_format.proofs.Steps.{at_mark}
use Rattle.crn_symbol_codec.specs.Cursors.{place, Holds}
use Rattle.crn_symbol_codec.specs.Taking.{Takes}
use Rattle.crn_symbol_codec.specs.Telling.{fault, told, OnPart}
use Rattle.crn_symbol_codec.specs.declared.Cursor.{Cursor}
use Rattle.crn_code_tables.specs.Receiving.{Received, held_by, Receives}
use Rattle.crn_code_tables.specs.Parts.{fault_at, Tells, TellsAt}
use Rattle.crn_code_tables.proofs.Putting.{table_none}

-- ---- what is served

-- the number or the symbol that is wanted at the cursor's place, and a cursor that holds; or the fault
pub record Serves (seg : List ℕ) (x : Want) (c : Cursor) (r : Result (ℕ × Cursor) Fault) : Type 0 where
  pub same : (b : ℕ) → told (λ v. v) b r ≡ served seg x (spot (place c) b)
  pub holds : OnPart (λ _ d. Holds seg d) r

-- from a cursor that was made ready
module _ {seg : List ℕ} {x : Want} {c d : Cursor} (e : place c ≡ place d) where
  pub serves : {t : ℕ × Cursor} → Takes seg x c (Ok t) → Serves seg x d (Ok t)
  serves t = record { same = λ b. rw e at (t.same b); holds = t.holds }

  pub serves_none : {k : Refusal} → Takes seg x c (Err k) → Serves seg x d (Err (fault_at k (place d)))
  serves_none t = record { same = λ b. rw e at (t.same b); holds = tt }

module _ {A : Type 0} {seg : List ℕ} {x : Want} {c : Cursor} (f : ℕ → Reading A) (b : ℕ) where
  -- the run goes on after it
  pub served_on : {t : ℕ × Cursor} → Serves seg x c (Ok t)
      → run (from_bits seg) (want x f) (spot (place c) b) ≡ run (from_bits seg) (f t.0) (spot (place t.1) b)
  unfolding run then from_bits
  served_on s = ap (λ (y : Step Place ℕ). then y (λ v w. run (from_bits seg) (f v) w)) (sym (s.same b))

  -- or ends
  pub served-fault : {e : Fault} → Serves seg x c (Err e) → run (from_bits seg) (want x f) (spot (place c) b) ≡ fault e
  unfolding run then from_bits
  served-fault s = ap (λ (y : Step Place ℕ). then y (λ v w. run (from_bits seg) (f v) w)) (sym (s.same b))

-- ---- what is told of a table

module _ {seg lent : List ℕ} {o : Step Place (List ℕ)} where
  pub tells_fault : {e : Fault} → o ≡ fault e → Tells seg o (Err e) lent
  tells_fault e = record { blamed = 0; same = e; goes = tt }

  -- what one function tells, its caller tells
  pub tells_same : {q : Step Place (List ℕ)} {r : Received} → o ≡ q → Tells seg q r lent → Tells seg o r lent
  tells_same e t = record { blamed = t.blamed; same = e ∙ t.same; goes = t.goes }

-- whatever is blamed before a table
once : (seg : List ℕ) (p b : ℕ) → run (from_bits seg) table (spot p b) ≡ run (from_bits seg) table (spot p p)
unfolding table
once seg p b = at_mark seg _ p b ∙ sym (at_mark seg _ p p)

-- the answer as `receive` gives it: after a fault the lent lengths are cleared
module _ {seg : List ℕ} {c : Cursor} {left : List ℕ} where
  pub received : (r : Received) → is_err r ≡ false → TellsAt seg table c r left → Receives seg c r left
  received (Ok (n, d)) _ f =
      let a = f (place c) in
      record {
        blamed = a.blamed;
        same = λ b. once seg (place c) b ∙ a.same;
        whole = a.goes.whole;
        goes = a.goes.holds;
        none = λ e h. cc;
      }
  received (Err e) h f = cc

  pub declined : {after : List ℕ} (r : Received) → is_err r ≡ true → TellsAt seg table c r left → after ≡ replicate max_symbols 0
      → Receives seg c r after
  declined (Ok (n, d)) h f z = cc
  declined {after} (Err e) _ f z =
      let empty : held_by (Err e) after ≡ table_of [] = table_none z in
      record {
        blamed = 0;
        same = λ b. once seg (place c) b ∙ (f (place c)).same;
        whole = empty ∙ ap (λ (t : Table). table_of (lengths_of t)) (sym empty);
        goes = tt;
        none = λ _ _. empty;
      }
