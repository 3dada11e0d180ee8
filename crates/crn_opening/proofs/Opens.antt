-- From the parts of an opening to the whole.
use Prim.Native.Nat.{ℕ}
use mathlib.Core.Bool.{true, false, false≢true}
use mathlib.Core.List.{List}
use mathlib.Core.Path.{◌≡◌, refl, sym, ap, subst, ◌∙◌}
use native.Mathlib.Omega.{arith}
use lib.ListN.{length}
use Rattle.std.specs.Prelude.{Ok, Err}
use Rattle.std.specs.Result.{is_err}
use Rattle.std.specs.declared.result.Result.{Result}
use Rattle.crn_format.specs.Refusals.{number_of}
use Rattle.crn_format.specs.Header.{header_of}
use Rattle.crn_format.specs.Look.{looked, look_of}
use Rattle.crn_format.specs.Opening.{Palettes, Opening, opened, shut, Lengths, zeroed, segments_stand, room_for}
use Rattle.crn_format.specs.Opening.{tables_of, streams, after_look, opening}
use Rattle.crn_format.specs.Loading.{agrees, loading}
use Rattle.crn_format.specs.declared.Fault.{Fault}
use Rattle.crn_format.specs.declared.Header.{Header}
use Rattle.crn_format.specs.declared.Looked.{Looked}
use Rattle.crn_format.specs.declared.Record.{Record}
use Rattle.crn_format.specs.declared.Refusal.{Refusal}
use Rattle.crn_format.specs.declared.Refusal.TheVariants.{Disagrees}
use Rattle.crn_format.proofs.Numbers.{number-above}
use Rattle.crn_format.proofs.LookAndOpen.{look-passes, look_refuses, look-goes-on}
use Rattle.crn_format.proofs.Loads.{agrees-found, agrees_own, load_apart}
use Rattle.crn_opening.specs.declared.opening.OpenedParts.{OpenedParts}
use Rattle.crn_opening.specs.SentTables.{AllZero}
use Rattle.crn_formats.specs.Lent.{lent_of}
use Rattle.crn_opening.specs.declared.lent.PalettesMut.{PalettesMut}
use Rattle.crn_opening.specs.declared.lent.LengthsMut.{LengthsMut}
use Rattle.crn_opening.specs.Lending.{held, lengths_in, NoLengths}
use Rattle.crn_opening.specs.Streams.{Seen}
use Rattle.crn_opening.specs.Opens.{refused_before, opened_by, opened_in, left_by, closed, Opened, to_opened, buffers_of, arrays_of, Opens, Loads}
use Rattle.crn_opening.proofs.Streams.{cleared}

-- ---- an opening that is known

module _ {o : Opening} {after : Palettes} where
  is-shut : {n bit : ℕ} {left : Palettes} → o ≡ shut n bit left → after ≡ left → {r : Opened} → r ≡ closed n bit → Opens o after r
  is-shut e l a = record { answer = a ∙ ap to_opened (sym e); leaves = l ∙ ap buffers_of (sym e) }

  is-opened : {file : Record} → o ≡ opened file after → Opens o after (record { refusal = 0; at = 0; file = file })
  is-opened e = record { answer = ap to_opened (sym e); leaves = ap buffers_of (sym e) }

-- a refusal by its parts
pub closed_by : {e : Fault} {r : Result OpenedParts Fault} {a b c d f : List ℕ} → r ≡ Err e → AllZero a b c d f
    → opened_by r a b c d f ≡ closed (number_of e.refusal) e.at
unfolding tables_of
closed_by is none = rw (is, none.first, none.color_e, none.color_s, none.alpha_e, none.alpha_s)

-- ---- the streams

module _ {o : Opening} (lent after : Palettes) (t : Lengths) where
  pub streams-read : (r : Result OpenedParts Fault) → is_err r ≡ false → o ≡ left_by lent after t r → Opens o after (opened_in r t)
  streams-read (Ok p) h e = is-opened e
  streams-read (Err p) h e = cc

  -- all that was lent is cleared
  pub streams-refused : (r : Result OpenedParts Fault) → is_err r ≡ true → o ≡ left_by lent after t r
      → {left : Palettes} → left ≡ zeroed after → length left.color_ends ≡ length lent.color_ends
      → length left.color_sels ≡ length lent.color_sels → length left.alpha_ends ≡ length lent.alpha_ends
      → length left.alpha_sels ≡ length lent.alpha_sels → {u : Lengths} → NoLengths u → Opens o left (opened_in r u)
  streams-refused (Ok p) h e l h₁ h₂ h₃ h₄ none = cc
  streams-refused (Err p) h e l h₁ h₂ h₃ h₄ none = is-shut e (cleared after lent l h₁ h₂ h₃ h₄) (closed_by refl none)

-- ---- the checks from 4 on, and then the streams

module _ (file : List ℕ) (lent : Palettes) (h : Header) where
  pub no-segment : segments_stand file h ≡ false → {r : Opened} → r ≡ closed 4 0 → Opens (after_look file lent h) lent r
  no-segment s a = is-shut (simp s) refl a

  module _ (s : segments_stand file h ≡ true) where
    pub no_room : room_for h lent ≡ false → {r : Opened} → r ≡ closed 5 0 → Opens (after_look file lent h) lent r
    no_room f a = is-shut (simp (s, f)) refl a

    pub then-streams : room_for h lent ≡ true → {after : Palettes} {r : Opened} → Opens (streams file lent h) after r
        → Opens (after_look file lent h) after r
    then-streams f {after} {r} o = subst (λ (x : Opening). Opens x after r) (sym (simp (s, f))) o

-- ---- opening: the look, and what comes after it

module _ (file : List ℕ) where
  pub look-refused : (lent : Palettes) (n : Refusal) → looked (Err n) ≡ look_of file → {r : Opened} → r ≡ closed (number_of n) 0
      → Opens (opening file lent) lent r
  look-refused lent n e a =
      let is : number_of n ≡ (look_of file).refusal = ap (λ (x : Looked). x.refusal) e in
      let some = number-above n in
      is-shut (look_refuses file lent (omega arith) ∙ ap (λ (n : ℕ). shut n 0 lent) (sym is)) refl a

  module _ (h : Header) (e : looked (Ok h) ≡ look_of file) where
    looks_on : (look_of file).refusal ≡ 0
    looks_on = sym (ap (λ (x : Looked). x.refusal) e)

    header_is : h ≡ header_of file
    header_is = ap (λ (x : Looked). x.header) (e ∙ (look-passes file looks_on).0)

    pub look-passed : Seen file h
    look-passed =
        let both = (look-passes file looks_on).1 in
        record { within = rw header_is both.0; sizes = rw header_is both.1 }

    pub then_opens : (lent : Palettes) {after : Palettes} {r : Opened} → Opens (after_look file lent h) after r
        → Opens (opening file lent) after r
    then_opens lent {after} {r} o =
        subst (λ (x : Opening). Opens x after r) (sym (look-goes-on file lent looks_on ∙ ap (after_look file lent) (sym header_is))) o

-- ---- a load: the record against the file, and what comes after it

module _ (h : Header) (file : List ℕ) where
  pub loads_apart : (lent : Palettes) → agrees h file ≡ false → {had : Lengths} {r : Result OpenedParts Fault} → r ≡ refused_before Disagrees
      → Loads h file lent lent had had r
  loads_apart lent n a =
      record {
        leaves = sym (ap buffers_of (load_apart h file lent n));
        apart = λ _. (a, refl);
        alike = λ y. absurd (false≢true (sym n ∙ y));
      }

  module _ (y : agrees h file ≡ true) where
    pub agreed : Seen file h
    agreed =
        let both = (look-passes file (ap (λ (x : Looked). x.refusal) (agrees-found h file y))).1 in
        let own = agrees_own h file y in
        record { within = rw own both.0; sizes = rw own both.1 }

    goes_on : (lent : Palettes) → loading h file lent ≡ after_look file lent h
    unfolding loading
    goes_on lent = simp y

    pub loads_on : (lent : Palettes) {after : Palettes} {had left : Lengths} {r : Result OpenedParts Fault}
        → Opens (after_look file lent h) after (opened_by r left.chunk left.color_ends left.color_sels left.alpha_ends
        left.alpha_sels)
        → Loads h file lent after had left r
    loads_on lent o =
        record {
          leaves = o.leaves ∙ ap buffers_of (sym (goes_on lent));
          apart = λ n. absurd (false≢true (sym n ∙ y));
          alike = λ _. o.answer ∙ ap to_opened (sym (goes_on lent));
        }

-- ---- what is left behind two structs is left in what they lend

module _ (t : LengthsMut) {chunk color_ends color_sels alpha_ends alpha_sels : List ℕ} (f₁ : chunk ≡ t.chunk.now)
    (f₂ : color_ends ≡ t.color_ends.now) (f₃ : color_sels ≡ t.color_sels.now) (f₄ : alpha_ends ≡ t.alpha_ends.now)
    (f₅ : alpha_sels ≡ t.alpha_sels.now) where
  pub none_lent : NoLengths (lengths_in t) → AllZero chunk color_ends color_sels alpha_ends alpha_sels
  none_lent none = rw (f₁, f₂, f₃, f₄, f₅) none

  module _ (p : PalettesMut) {ce cs ae al : List ℕ} (e₁ : ce ≡ p.color_endpoints.now) (e₂ : cs ≡ p.color_selectors.now)
      (e₃ : ae ≡ p.alpha_endpoints.now) (e₄ : al ≡ p.alpha_selectors.now) where
    pub opens_lent : {o : Opening} (r : Result OpenedParts Fault) → Opens o (held p) (opened_in r (lengths_in t))
        → Opens o (lent_of ce cs ae al) (opened_by r chunk color_ends color_sels alpha_ends alpha_sels)
    opens_lent r o = rw (e₁, e₂, e₃, e₄, f₁, f₂, f₃, f₄, f₅) o

    pub loads_lent : {h : Header} {file : List ℕ} {lent : Palettes} {had : Lengths} {r : Result OpenedParts Fault}
        → Loads h file lent (held p) had (lengths_in t) r
        → Loads h file lent (lent_of ce cs ae al) had (arrays_of chunk color_ends color_sels alpha_ends alpha_sels) r
    loads_lent l = rw (e₁, e₂, e₃, e₄, f₁, f₂, f₃, f₄, f₅) l
