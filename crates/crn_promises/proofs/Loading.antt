-- What the definition of a load promises, of a call that answers and leaves what it says. Where record and file agree, the load is the
-- opening of that file, and what is promised of an opening holds of it; where they disagree it is refused by 17.
use Prim.Native.Nat.{ℕ}
use mathlib.Core.Bool.{Bool, true, false, false≢true}
use mathlib.Core.Logic.{◌⊎◌, inl, inr}
use mathlib.Core.List.{List}
use mathlib.Core.Path.{◌≡◌, refl, sym, ap, ◌∙◌}
use native.Mathlib.Omega.{arith}
use Rattle.crn_format.specs.Header.{header_of}
use Rattle.crn_format.specs.Look.{look_at, look_of}
use Rattle.crn_format.specs.Opening.{Opening, opened, shut, after_look, opening}
use Rattle.crn_format.specs.Loading.{agrees, loading}
use Rattle.crn_format.specs.declared.Looked.{Looked}
use Rattle.crn_format.proofs.LookAndOpen.{look_refuses, look-goes-on}
use Rattle.crn_format.proofs.Loads.{agrees-found, found-agrees, agrees_own, load-goes-on, load_apart, look-agrees}
use Rattle.crn_format.proofs.Heads.{look-at_head}
use Rattle.std.specs.declared.result.Result.{Result}
use Rattle.crn_format.specs.declared.Fault.{Fault}
use Rattle.crn_opening.specs.Opens.{Opened, opened_by, closed, to_opened, buffers_of, Opens, Loads}
use Rattle.crn_opening.specs.declared.opening.OpenedParts.{OpenedParts}
use Rattle.crunch_abi.specs.Opening as flat
use Rattle.crunch_abi.specs.declared.loading.OpenedHeader.{OpenedHeader}
use Rattle.crn_laws_total.specs.Refusals.{among, after_look_refusals}
use Rattle.crn_laws_total.proofs.Numbers.{not-zero}
use Rattle.crn_laws_total.proofs.Opening.{Late, after-look_late}
use Rattle.crn_promises.specs.Calls.{OpenCall, LoadCall}
use Rattle.crn_promises.specs.Promises.{HeadTotal, OpenSame, LoadSame, LoadTotal, LoadExact}
use Rattle.crn_promises.specs.Promises.{TwoCalls, LoadReady, LoadTold}
use Rattle.crn_promises.proofs.Look.{look-total}
use Rattle.crn_promises.proofs.Opening as opens

-- the look by a file's first bytes
pub head_total : (head : List ℕ) (n : ℕ) (a : Looked) → a ≡ look_at head n → HeadTotal head n a
head_total head n a is file k long begins sized =
    look-total file a (is ∙ rw (begins, sized) (look-at_head file k long))

-- both contracts say the same of a call
module _ (c : LoadCall) where
  pub whole_same : Opens (loading c.header c.file c.lent) c.after c.answer → c.left ≡ c.had → LoadSame c
  whole_same o kept =
      record {
        leaves = o.leaves;
        alike = λ _. o.answer;
        apart = λ n.
            let is : c.answer ≡ closed 17 0 = o.answer ∙ ap to_opened (load_apart c.header c.file c.lent n) in
            rw is (refl, (refl, (refl, kept)));
      }

  -- with the record by its parts
  pub into_same : (r : Result OpenedParts Fault)
      → c.answer ≡ opened_by r c.left.chunk c.left.color_ends c.left.color_sels c.left.alpha_ends c.left.alpha_sels
      → Loads c.header c.file c.lent c.after c.had c.left r → LoadSame c
  into_same r told l =
      record {
        leaves = l.leaves;
        alike = λ y. told ∙ l.alike y;
        apart = λ n. let a = l.apart n in rw (told, a.0) (refl, (refl, (refl, a.1)));
      }

  -- and as C and Rust are answered
  pub parts_same : (r : OpenedHeader)
      → c.answer ≡ flat.opened_by r c.left.chunk c.left.color_ends c.left.color_sels c.left.alpha_ends c.left.alpha_sels
      → flat.Loads c.header c.file c.lent c.after c.had c.left r → LoadSame c
  parts_same r told l =
      record {
        leaves = l.leaves;
        alike = λ y. told ∙ l.alike y;
        apart = λ n. let a = l.apart n in rw (told, a.0) (refl, (refl, (refl, a.1)));
      }

module _ (c : LoadCall) (s : LoadSame c) where
  -- the same call as an opening
  abbrev as_opening : OpenCall
  as_opening = record { file = c.file; lent = c.lent; after = c.after; answer = c.answer }

  module _ (y : agrees c.header c.file ≡ true) where
    is-opening : loading c.header c.file c.lent ≡ opening c.file c.lent
    is-opening = load-goes-on c.header c.file c.lent y

    as_opening_lem : OpenSame as_opening
    as_opening_lem = record { answer = s.alike y ∙ ap to_opened is-opening; leaves = s.leaves ∙ ap buffers_of is-opening }

    goes_on : opening c.file c.lent ≡ after_look c.file c.lent (header_of c.file)
    goes_on =
        look-goes-on c.file c.lent (ap (λ (x : Looked). x.refusal) (agrees-found c.header c.file y))

    -- no 1, 2 or 3, and the header that was handed in
    pub record Ended : Type 0 where
      pub number : (c.answer.refusal ≡ 0) ⊎ (among c.answer.refusal after_look_refusals ≡ true)
      pub header : c.answer.refusal ≡ 0 → c.answer.file.header ≡ c.header

    late : (o : Opening) → Late (header_of c.file) o → c.answer ≡ to_opened o → Ended
    late (opened r after) l p =
        record {
          number = inl (ap (λ (x : Opened). x.refusal) p);
          header = λ _. ap (λ (x : Opened). x.file.header) p ∙ l ∙ sym (agrees_own c.header c.file y);
        }
    late (shut n bit after) l p =
        record {
          number = inr (rw p l);
          header = λ z. absurd (not-zero after_look_refusals refl l (sym (ap (λ (x : Opened). x.refusal) p) ∙ z));
        }

    ended : Ended
    ended =
        late (after_look c.file c.lent (header_of c.file)) (after-look_late c.file c.lent (header_of c.file))
        (as_opening_lem.answer ∙ ap to_opened goes_on)

    not_17 : c.answer.refusal ≡ 17 → ⊥
    not_17 e = by ended.number
      where
        by : (c.answer.refusal ≡ 0) ⊎ (among c.answer.refusal after_look_refusals ≡ true) → ⊥
        by (inl z) = omega (arith, z, e)
        by (inr l) = false≢true (ap (λ (n : ℕ). among n after_look_refusals) (sym e) ∙ l)

    some : (c.answer.refusal ≡ 0) ⊎ (among c.answer.refusal after_look_refusals ≡ true)
        → (c.answer.refusal ≡ 0) ⊎ ((c.answer.refusal ≡ 17) ⊎ (among c.answer.refusal after_look_refusals ≡ true))
    some (inl z) = inl z
    some (inr l) = inr (inr l)

    total-alike : LoadTotal c
    total-alike =
        let o = opens.open-total as_opening as_opening_lem in
        record {
          number = some ended.number;
          accepted = λ z.
              let a = o.accepted z in
              let h = ended.header z in
              (a.0, (h, rw h at a.1));
          disagrees = λ e. absurd (not_17 e);
          refused = λ l. o.refused (not-zero after_look_refusals refl l);
        }

  module _ (n : agrees c.header c.file ≡ false) where
    total-apart : LoadTotal c
    total-apart =
        let a = s.apart n in
        let is : c.answer.refusal ≡ 17 = a.0 in
        record {
          number = inr (inl is);
          accepted = λ z. absurd (omega (arith, is, z));
          disagrees = λ _. (a.1.0, (s.leaves ∙ ap buffers_of (load_apart c.header c.file c.lent n), a.1.1.1));
          refused = λ l. absurd (false≢true (ap (λ (n : ℕ). among n after_look_refusals) (sym is) ∙ l));
        }

  -- by whether they agree
  both_ways : {P : Type 0} → (agrees c.header c.file ≡ true → P) → (agrees c.header c.file ≡ false → P) → P
  both_ways {P} alike apart = by (agrees c.header c.file) refl
    where
      by : (b : Bool) → agrees c.header c.file ≡ b → P
      by true e = alike e
      by false e = apart e

  pub load-total : LoadTotal c
  load-total = both_ways total-alike total-apart

  pub load-exact : LoadExact c
  load-exact = (
    λ e f. not_17 (found-agrees c.header c.file f) e,
    λ no. both_ways (λ y. absurd (no (agrees-found c.header c.file y))) (λ n. (s.apart n).0),
  )

  pub load-ready : LoadReady c
  load-ready z =
      both_ways (λ y. opens.open-ready as_opening (as_opening_lem y) z) (λ n. absurd (omega (arith, (s.apart n).0, z)))

  pub load-told : LoadTold c
  load-told w e =
      both_ways (λ y. opens.open-told as_opening (as_opening_lem y) (rw (agrees_own c.header c.file y) at w) e)
      (λ n. omega (arith, (s.apart n).0, e))

  -- one call after the other
  pub two-calls : (file : List ℕ) (a : Looked) → a ≡ look_of file → (o : OpenCall) → OpenSame o → TwoCalls file a c o
  two-calls file a is o same header mine his lent =
      record {
        goes_on = λ z.
            let own = as_opening_lem (rw (header, is, mine) (look-agrees file (sym (ap (λ (x : Looked). x.refusal) is) ∙ z))) in
            let its : opening c.file c.lent ≡ opening o.file o.lent = rw (mine, his, lent) in
            (own.answer ∙ ap to_opened its ∙ sym same.answer, own.leaves ∙ ap buffers_of its ∙ sym same.leaves);
        refused = λ f.
            let n = ap (λ (x : Looked). x.refusal) is in
            let shuts : opening o.file o.lent ≡ shut a.refusal 0 o.lent =
            rw (his, n) (look_refuses file o.lent (omega (arith, f))) in
            (same.answer ∙ ap to_opened shuts, same.leaves ∙ ap buffers_of shuts);
      }
