-- The tables segment, part after part.
use Prim.Native.Nat.{ℕ}
use mathlib.Core.Bool.{true, false}
use mathlib.Core.List.{List}
use mathlib.Core.Path.{◌≡◌, sym, ap, ◌∙◌}
use lib.ListN.{replicate}
use Rattle.std.specs.Prelude.{Ok, Err}
use Rattle.crn_format.specs.Reading.{Reading, next, Step, Place, spot, start, run, from_bits}
use Rattle.crn_format.specs.Refusals.{number_of}
use Rattle.crn_format.specs.Limits.{max_symbols}
use Rattle.crn_format.specs.Tables.{table}
use Rattle.crn_format.specs.Opening.{Lengths, present, plane_tables, sent_tables, tables_of}
use Rattle.crn_format.specs.Unpacking.{lengths_of}
use Rattle.crn_format.specs.declared.Fault.{Fault}
use Rattle.crn_format.specs.declared.Header.{Header}
use Rattle.crn_format.proofs.Steps.{go_on, stop, answered}
use Rattle.crn_formats.specs.Records.{table_by}
use Rattle.crn_symbol_codec.specs.Cursors.{place, Holds}
use Rattle.crn_symbol_codec.specs.Telling.{fault}
use Rattle.crn_symbol_codec.specs.declared.Cursor.{Cursor}
use Rattle.crn_code_tables.specs.Receiving.{Received, Receives}
use Rattle.crn_code_tables.proofs.Putting.{table_none}
use Rattle.crn_opening.specs.SentTables.{Ends, Pairs, unsent, told, sent_of}

-- ---- one part, and what comes after it

module _ {X A B : Type 0} {seg : List ℕ} {m : Reading A} {c : Cursor} {f : X → A} (k : A → Reading B) (b : ℕ) where
  on : {x : X} {d : Cursor} (e : Ends seg m c f (Ok (x, d)))
      → run (from_bits seg) (next m k) (spot (place c) b) ≡ run (from_bits seg) (k (f x)) (spot (place d) (e.blamed b))
  on e = go_on (from_bits seg) m k (spot (place c) b) (e.same b)

  off : {e : Fault} → Ends seg m c f (Err e) → run (from_bits seg) (next m k) (spot (place c) b) ≡ fault e
  off e = stop (from_bits seg) m k (spot (place c) b) (e.same b)

-- a table that was received
received : {seg : List ℕ} {c : Cursor} {r : Received} {ls : List ℕ} → Receives seg c r ls
    → Ends seg table c (λ n. lengths_of (table_by n ls)) r
received {r = Ok (n, d)} e = record { blamed = λ _. e.blamed; same = e.same; holds = e.goes }
received {r = Err f} e = record { blamed = λ _. 0; same = e.same; holds = tt }

-- ---- a plane's two tables

pub absent : {seg : List ℕ} {c : Cursor} {ends sels : List ℕ} → Holds seg c → ends ≡ replicate max_symbols 0 → sels ≡ replicate max_symbols
    0
    → Pairs seg false c (Ok ((0, 0), c)) ends sels
unfolding plane_tables
absent {seg} h e s =
    record {
      reads = record { blamed = λ b. b; same = λ b. answered (from_bits seg) _ _; holds = h };
      endpoints = table_none e;
      selectors = table_none s;
    }

module _ {seg : List ℕ} {c : Cursor} {ends sels : List ℕ} where
  pub first-refused : {f : Fault} → Receives seg c (Err f) ends → Pairs seg true c (Err f) ends sels
  unfolding plane_tables
  first-refused e =
      record { reads = record { blamed = λ b. b; same = λ b. off _ b (received e); holds = tt }; endpoints = tt; selectors = tt }

  module _ {n : ℕ} {d : Cursor} (e : Receives seg c (Ok (n, d)) ends) where
    pub second-refused : {f : Fault} → Receives seg d (Err f) sels → Pairs seg true c (Err f) ends sels
    unfolding plane_tables
    second-refused g =
        record {
          reads = record { blamed = λ b. b; same = λ b. on _ b (received e) ∙ off _ _ (received g); holds = tt };
          endpoints = tt;
          selectors = tt;
        }

    pub both_received : {m : ℕ} {f : Cursor} → Receives seg d (Ok (m, f)) sels → Pairs seg true c (Ok ((n, m), f)) ends sels
    unfolding plane_tables
    both_received g =
        record {
          reads = record {
            blamed = λ b. (received g).blamed ((received e).blamed b);
            same = λ b. on _ b (received e) ∙ on _ _ (received g) ∙ answered (from_bits seg) _ _;
            holds = g.goes;
          };
          endpoints = e.whole;
          selectors = g.whole;
        }

-- ---- the whole segment

-- a refusal, whatever was received before it
pub told-refused : {o : Step Place Lengths} (e : Fault) → o ≡ fault e → unsent (number_of e.refusal) e.at ≡ sent_of o
told-refused e p = sym (ap sent_of p)

module _ (seg : List ℕ) (h : Header) (c : Cursor) (first : place c ≡ 0) where
  -- from the cursor on, which is at the segment's first bit
  abbrev sent : Step Place Lengths
  sent = run (from_bits seg) (sent_tables h) start

  from_first : sent ≡ run (from_bits seg) (sent_tables h) (spot (place c) 0)
  from_first = ap (λ (p : ℕ). run (from_bits seg) (sent_tables h) (spot p 0)) (sym first)

  module _ {a : List ℕ} where
    pub chunk-refused : {f : Fault} → Receives seg c (Err f) a → sent ≡ fault f
    unfolding sent_tables
    chunk-refused e = from_first ∙ off _ 0 (received e)

    module _ {n : ℕ} {d₁ : Cursor} (e : Receives seg c (Ok (n, d₁)) a) {ce cs : List ℕ} where
      pub color-refused : {f : Fault} → Pairs seg (present h.color_endpoints) d₁ (Err f) ce cs → sent ≡ fault f
      unfolding sent_tables
      color-refused p = from_first ∙ on _ 0 (received e) ∙ off _ _ p.reads

      module _ {color : ℕ × ℕ} {d₂ : Cursor} (p : Pairs seg (present h.color_endpoints) d₁ (Ok (color, d₂)) ce cs) {ae al : List ℕ} where
        pub alpha-refused : {f : Fault} → Pairs seg (present h.alpha_endpoints) d₂ (Err f) ae al → sent ≡ fault f
        unfolding sent_tables
        alpha-refused q = from_first ∙ on _ 0 (received e) ∙ on _ _ p.reads ∙ off _ _ q.reads

        pub all-sent : {alpha : ℕ × ℕ} {d₃ : Cursor} → Pairs seg (present h.alpha_endpoints) d₂ (Ok (alpha, d₃)) ae al
            → told (Ok (record { chunk = n; color_ends = color.0; color_sels = color.1; alpha_ends = alpha.0; alpha_sels = alpha.1 }))
            (record { chunk = a; color_ends = ce; color_sels = cs; alpha_ends = ae; alpha_sels = al }) ≡ sent_of sent
        unfolding sent_tables tables_of
        all-sent q =
            let ran = from_first ∙ on _ 0 (received e) ∙ on _ _ p.reads ∙ on _ _ q.reads ∙ answered (from_bits seg) _ _ in
            let f = e.whole in
            let g = p.endpoints in
            let i = p.selectors in
            let j = q.endpoints in
            let k = q.selectors in
            rw ran cc
