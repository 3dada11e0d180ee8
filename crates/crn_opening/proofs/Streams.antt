-- The palettes of an opening, one after another.
use Prim.Native.Nat.{ℕ}
use mathlib.Core.Bool.{Bool, true, false}
use mathlib.Core.List.{List}
use mathlib.Core.Path.{◌≡◌, sym, ap, ◌∙◌}
use native.Mathlib.Omega.{arith}
use lib.ListN.{length, replicate, length-replicate}
use borrow.Author.Tests.{lt-ltb, le-ltb}
use Rattle.std.specs.Prelude.{⊤, Ok, Err}
use Rattle.std.specs.declared.result.Result.{Result}
use Rattle.crn_format.specs.Reading.{Reading, Step, got, refused, Place, start, run, from_bits}
use Rattle.crn_format.specs.Palettes.{color_endpoints, color_selectors, alpha_endpoints, alpha_selectors}
use Rattle.crn_format.specs.Opening.{Palettes, Lengths, tables_of, Opening, opened, shut, present, segment, filled, zeros, zeroed, onward, palette_in, sent_tables, streams}
use Rattle.crn_format.specs.Refusals.{number_of}
use Rattle.crn_format.specs.declared.Fault.{Fault}
use Rattle.crn_format.specs.declared.Part.{Part}
use Rattle.crn_format.specs.declared.Header.{Header}
use Rattle.crn_format.specs.declared.Tables.{Tables}
use Rattle.crn_format.proofs.Numbers.{number-above}
use Rattle.crn_formats.specs.Lent.{lent_of}
use Rattle.crn_formats.specs.Records.{tables_by}
use Rattle.crn_formats.specs.declared.records.Counts.{Counts}
use Rattle.crn_palettes.specs.Filling.{Ended, ended, answered, held, Fills}
use Rattle.crn_opening.specs.SentTables.{Told, unsent, told, sent_of}
use Rattle.crn_opening.specs.Streams.{settled, palettes_in, PlaneEnds, PalettesEnd}
use Rattle.crn_opening.proofs.Refusals.{Numbered, Some, run-some, tables_numbered}

-- all four buffers are zero
pub all-zero : (b₁ b₂ b₃ b₄ : List ℕ) {a₁ a₂ a₃ a₄ : List ℕ} → a₁ ≡ zeros b₁ → a₂ ≡ zeros b₂ → a₃ ≡ zeros b₃ → a₄ ≡ zeros b₄
    → lent_of a₁ a₂ a₃ a₄ ≡ zeroed (lent_of b₁ b₂ b₃ b₄)
unfolding zeroed
all-zero b₁ b₂ b₃ b₄ e₁ e₂ e₃ e₄ = cc

-- the four buffers, cleared after they were written: their lengths stayed the same
pub cleared : (a b : Palettes) {w : Palettes} → w ≡ zeroed a → length w.color_ends ≡ length b.color_ends → length w.color_sels ≡ length
    b.color_sels
    → length w.alpha_ends ≡ length b.alpha_ends → length w.alpha_sels ≡ length b.alpha_sels → w ≡ zeroed b
unfolding zeroed
cleared a b {w} e h₁ h₂ h₃ h₄ =
    let e₁ = same a.color_ends b.color_ends (ap (λ (p : Palettes). p.color_ends) e) h₁ in
    let e₂ = same a.color_sels b.color_sels (ap (λ (p : Palettes). p.color_sels) e) h₂ in
    let e₃ = same a.alpha_ends b.alpha_ends (ap (λ (p : Palettes). p.alpha_ends) e) h₃ in
    let e₄ = same a.alpha_sels b.alpha_sels (ap (λ (p : Palettes). p.alpha_sels) e) h₄ in
    all-zero b.color_ends b.color_sels b.alpha_ends b.alpha_sels e₁ e₂ e₃ e₄
  where
    same : (a b : List ℕ) {w : List ℕ} → w ≡ zeros a → length w ≡ length b → w ≡ zeros b
    same a b e h =
        let n : length a ≡ length b = sym (length-replicate {A = ℕ} (length a) 0) ∙ sym (ap length e) ∙ h in
        e ∙ ap (λ (n : ℕ). replicate {A = ℕ} n 0) n

-- ---- a palette

module _ {seg : List ℕ} {m : Reading (List ℕ)} {before after : List ℕ} {r : Result ⊤ Fault} (f : Fills seg m before after r) where
  ends_by : Numbered m → (lent : Palettes) (k : List ℕ → Opening)
      → onward lent (run (from_bits seg) m start) (λ words. k (filled words before)) ≡ settled lent r (k after)
  unfolding onward
  ends_by n lent k = by (run (from_bits seg) m start) r (run-some seg m start n) f.answer f.holds
    where
      by : (x : Step Place (List ℕ)) (r : Result ⊤ Fault) → Some x → ended r ≡ answered x → after ≡ held before x
          → onward lent x (λ words. k (filled words before)) ≡ settled lent r (k after)
      by (got words w) (Ok u) s e h = ap k (sym h)
      by (got words w) (Err q) s e h =
          let z : number_of q.refusal ≡ 0 = ap (λ (y : Ended). y.refusal) e in
          let some = number-above q.refusal in
          absurd (omega arith)
      by (refused n w) (Ok u) s e h = let z : 0 ≡ n = ap (λ (y : Ended). y.refusal) e in absurd (omega arith)
      by (refused n w) (Err q) s e h = ap (λ (y : Ended). shut y.refusal y.at (zeroed lent)) (sym e)

-- where its plane is present
palette : (file : List ℕ) (p : Part) (m : ℕ → Reading (List ℕ)) {b a : List ℕ} {r : Result ⊤ Fault} → Numbered (m p.count)
    → Fills (segment file p.offset p.size) (m p.count) b a r → (there : Bool) → there ≡ true → (lent : Palettes) (k : List ℕ → Opening)
    → palette_in file lent there p m b k ≡ settled lent r (k a)
unfolding palette_in
palette file p m n f there e lent k = simp e (ends_by f n lent k)

-- ---- the two palettes of a plane

module _ (file : List ℕ) (ends sels : Part) (m₁ m₂ : ℕ → Reading (List ℕ)) (b₁ b₂ : List ℕ) where
  pub plane_absent : ends.count ≡ 0 → PlaneEnds file ends sels m₁ m₂ b₁ b₂ b₁ b₂ (Ok tt)
  unfolding palette_in
  plane_absent z =
      let none : present ends ≡ false = le-ltb 0 ends.count (omega arith) in
      record { same = λ lent k. simp none }

  some : (ends.count ≡ 0 → ⊥) → present ends ≡ true
  some there = lt-ltb 0 ends.count (omega arith)

  module _ (there : ends.count ≡ 0 → ⊥) (n₁ : Numbered (m₁ ends.count)) {a₁ : List ℕ} where
    pub plane_stops : {e : Fault} → Fills (segment file ends.offset ends.size) (m₁ ends.count) b₁ a₁ (Err e) → {a₂ : List ℕ}
        → PlaneEnds file ends sels m₁ m₂ b₁ b₂ a₁ a₂ (Err e)
    plane_stops f = record { same = λ lent k. palette file ends m₁ n₁ f (present ends) (some there) lent _ }

    pub plane_goes-on : Fills (segment file ends.offset ends.size) (m₁ ends.count) b₁ a₁ (Ok tt) → Numbered (m₂ sels.count)
        → {a₂ : List ℕ} {r : Result ⊤ Fault} → Fills (segment file sels.offset sels.size) (m₂ sels.count) b₂ a₂ r
        → PlaneEnds file ends sels m₁ m₂ b₁ b₂ a₁ a₂ r
    plane_goes-on f n₂ g =
        record {
          same = λ lent k.
              palette file ends m₁ n₁ f (present ends) (some there) lent _ ∙ palette file sels m₂ n₂ g (present ends) (some there) lent (k a₁);
        }

-- ---- the four palettes

module _ (file : List ℕ) (h : Header) (b₁ b₂ b₃ b₄ : List ℕ) {a₁ a₂ a₃ a₄ : List ℕ} where
  pub color-stops : {e : Fault} → PlaneEnds file h.color_endpoints h.color_selectors color_endpoints color_selectors b₁ b₂ a₁ a₂ (Err e)
      → PalettesEnd file h (lent_of b₁ b₂ b₃ b₄) (lent_of a₁ a₂ a₃ a₄) (Err e)
  unfolding palettes_in
  color-stops p = record { same = λ k. p.same _ _ }

  pub color-goes-on : PlaneEnds file h.color_endpoints h.color_selectors color_endpoints color_selectors b₁ b₂ a₁ a₂ (Ok tt)
      → {r : Result ⊤ Fault} → PlaneEnds file h.alpha_endpoints h.alpha_selectors alpha_endpoints alpha_selectors b₃ b₄ a₃ a₄ r
      → PalettesEnd file h (lent_of b₁ b₂ b₃ b₄) (lent_of a₁ a₂ a₃ a₄) r
  unfolding palettes_in
  color-goes-on p q = record { same = λ k. p.same _ _ ∙ q.same _ _ }

-- ---- the streams: the tables, then the palettes

-- how the tables segment ends, and the rest of the opening after it
abbrev tables_read : List ℕ → Header → Step Place Lengths
tables_read file h = run (from_bits (segment file h.tables_offset h.tables_size)) (sent_tables h) start

abbrev after_tables : List ℕ → Palettes → Header → Tables → Opening
after_tables file lent h t = palettes_in file lent h (opened (record { header = h; tables = t }))

module _ (file : List ℕ) (lent : Palettes) (h : Header) where
  pub tables-stop : (e : Fault) → unsent (number_of e.refusal) e.at ≡ sent_of (tables_read file h)
      → streams file lent h ≡ shut (number_of e.refusal) e.at (zeroed lent)
  unfolding streams palettes_in onward
  tables-stop e s = by (tables_read file h) s
    where
      by : (x : Step Place Lengths) → unsent (number_of e.refusal) e.at ≡ sent_of x
          → onward lent x (λ t. after_tables file lent h (tables_of t)) ≡ shut (number_of e.refusal) e.at (zeroed lent)
      by (got t w) s =
          let z : number_of e.refusal ≡ 0 = ap (λ (y : Told). y.refusal) s in
          let some = number-above e.refusal in
          absurd (omega arith)
      by (refused n w) s = ap (λ (y : Told). shut y.refusal y.at (zeroed lent)) (sym s)

  module _ (counts : Counts) (t : Lengths) (s : told (Ok counts) t ≡ sent_of (tables_read file h)) where
    abbrev tables : Tables
    tables = tables_by counts t.chunk t.color_ends t.color_sels t.alpha_ends t.alpha_sels

    tables-read : streams file lent h ≡ after_tables file lent h tables
    unfolding streams palettes_in onward
    tables-read = by (tables_read file h) (run-some _ (sent_tables h) start (tables_numbered h)) s
      where
        by : (x : Step Place Lengths) → Some x → told (Ok counts) t ≡ sent_of x
            → onward lent x (λ t. after_tables file lent h (tables_of t)) ≡ after_tables file lent h tables
        by (got t w) n s = ap (λ (y : Told). after_tables file lent h y.tables) (sym s)
        by (refused k w) n s = let z : 0 ≡ k = ap (λ (y : Told). y.refusal) s in absurd (omega arith)

    pub streams-told : {after : Palettes} {r : Result ⊤ Fault} → PalettesEnd file h lent after r
        → streams file lent h ≡ settled lent r (opened (record { header = h; tables = tables }) after)
    streams-told p = tables-read ∙ p.same _
