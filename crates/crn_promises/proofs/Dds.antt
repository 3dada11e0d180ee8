-- What the definition of a DDS file promises, of a call that answers and leaves what it says.
use Prim.Native.Nat.{ℕ, ◌<◌}
use mathlib.Core.Bool.{Bool, true, false, false≢true}
use mathlib.Core.Logic.{inl, inr, ⊎_elim}
use mathlib.Core.List.{List, [], ◌∷◌, ◌++◌}
use mathlib.Core.Path.{◌≡◌, refl, sym, ap, ◌∙◌}
use native.Mathlib.Omega.{arith}
use Rattle.crn_format.specs.Choice.{pick}
use Rattle.crn_format.specs.Header.{within_limits}
use Rattle.crn_format.specs.Opening.{Palettes}
use Rattle.crn_format.specs.declared.Header.{Header}
use Rattle.crn_format.specs.declared.Record.{Record}
use Rattle.crn_laws.specs.Scripts.{Draws}
use Rattle.crn_laws_total.specs.Refusals.{among}
use Rattle.crn_laws_total.proofs.Numbers.{among_second, among-either, none_in_both, not-zero}
use Rattle.picture.specs.Kinds.{goes_out}
use Rattle.picture.specs.Surfaces.{Plan}
use Rattle.picture.specs.Writing.{Container, Writing, written, refused, writing}
use Rattle.picture.specs.Answers.{Writes, needed_for}
use Rattle.picture.specs.declared.Written.{Written}
use Rattle.picture.specs.declared.Needed.{Needed}
use Rattle.picture.proofs.Refusals.{needed_so}
use Rattle.dds.specs.Header.{dds_of}
use Rattle.law_containers.specs.Standing.{full_stream, Unfair, segment, palettes, script, Checked, Early, limits, tables, format, room}
use Rattle.law_containers.specs.Standing.{Fair, early_numbers, level_numbers}
use Rattle.law_containers.specs.Dds.{plan_of, DdsEnds}
use Rattle.law_containers.proofs.Numbers.{level-number, early-number, not-checked, refused-number}
use Rattle.law_containers.proofs.Writing.{standing-able, refused_unable, fair-only}
use Rattle.law_containers.proofs.Dds.{dds_sound, dds_ends}
use Rattle.crn_promises.specs.Calls.{DdsCall}
use Rattle.crn_promises.specs.Promises.{Ready, unready, left_to_refuse, DdsSame, DdsTotal, DdsExact, DdsReady, DdsTold, BytesTotal}

-- ---- how the call ends

module _ (c : DdsCall) where
  abbrev Ends : Writing → Type 0
  Ends w = DdsEnds c.opened c.file c.palettes c.destination w

  ends : Ends (writing dds_of c.opened c.file c.palettes c.destination)
  ends = dds_ends c.opened c.file c.palettes c.destination

  number_of : {a : Written} → c.answer ≡ a → c.answer.refusal ≡ a.refusal
  number_of is = ap (λ (a : Written). a.refusal) is

  total_by : (w : Writing) → Ends w → Writes w c.after c.answer → DdsTotal c
  unfolding Writes
  total_by (written n t d) e (answer, leaves) =
      let z : c.answer.refusal ≡ 0 = number_of answer in
      record {
        number = inl z;
        untouched = λ h. absurd (not-zero early_numbers refl h z);
        zeroed = λ h. absurd (not-zero level_numbers refl h z);
        nothing = λ f. absurd (f z);
      }
  total_by (refused s d) e (answer, leaves) =
      record {
        number = inr (rw answer (refused-number e));
        untouched = λ h. ⊎_elim (λ u. rw (answer, leaves) u)
            (λ z. absurd (none_in_both s.refusal early_numbers level_numbers refl (rw answer at h) (level-number z.why))) e;
        zeroed = λ h. ⊎_elim
            (λ u. absurd (none_in_both s.refusal early_numbers level_numbers refl (early-number u.why) (rw answer at h)))
            (λ z. rw (answer, leaves) z) e;
        nothing = λ _. (ap (λ (a : Written). a.bytes) answer, ap (λ (a : Written). a.cutouts) answer);
      }

  only : (checked : Checked (dds_of c.opened.header) c.opened c.destination) (l : ℕ) → l < c.opened.header.levels
      → (cs ds : List Draws) → Fair (plan_of c.opened) c.opened c.file c.palettes l cs
      → Fair (plan_of c.opened) c.opened c.file c.palettes l ds → cs ≡ ds
  only checked l h cs ds a b =
      fair-only (dds_of c.opened.header) c.opened c.file c.palettes c.destination (dds_sound c.opened) checked l h a b

  exact_by : (w : Writing) → Ends w → Writes w c.after c.answer → DdsExact c
  unfolding Writes
  exact_by (written n t d) e (answer, leaves) =
      record {
        accepted = ((λ _. standing-able e.standing), (λ _. number_of answer));
        only = only;
        written = λ _. ((ap (λ (a : Written). a.level) answer, ap (λ (a : Written). a.at) answer), rw (answer, leaves) e);
      }
  exact_by (refused s d) e (answer, leaves) =
      let some : c.answer.refusal ≡ 0 → ⊥ = λ z.
      not-zero (early_numbers ++ level_numbers) refl (refused-number e) (sym (number_of answer) ∙ z) in
      record {
        accepted = ((λ z. absurd (some z)), (λ able. absurd (refused_unable e able)));
        only = only;
        written = λ z. absurd (some z);
      }

pub dds_total : (c : DdsCall) → DdsSame c → DdsTotal c
dds_total c s = total_by c (writing dds_of c.opened c.file c.palettes c.destination) (ends c) s

pub dds_exact : (c : DdsCall) → DdsSame c → DdsExact c
dds_exact c s = exact_by c (writing dds_of c.opened c.file c.palettes c.destination) (ends c) s

-- ---- of an opened file

module _ {k : Container} {r : Record} {p : Palettes} {dst : List ℕ} (ready : Ready r p) where
  early_spared : {n : ℕ} → Early k r dst n → among n unready ≡ true → ⊥
  early_spared (limits a) h = false≢true (sym a ∙ ready.limits)
  early_spared (tables a b) h = false≢true (sym b ∙ ready.tables)
  early_spared (format a b d) h = false≢true h
  early_spared (room a b d e) h = false≢true h

module _ {pl : Plan} {r : Record} {file : List ℕ} {p : Palettes} {l : ℕ} (ready : Ready r p) where
  level-left : {n : ℕ} → Unfair pl r file p l n → among n left_to_refuse ≡ true
  level-left (segment a) = refl
  level-left (palettes a b) = absurd (false≢true (sym b ∙ ready.palettes))
  level-left {n} (script a b e f) = among_second n (4 ∷ []) full_stream e

pub dds_ready : (c : DdsCall) → DdsSame c → DdsReady c
dds_ready c s ready h =
    let t = dds_total c s in
    ⊎_elim (λ z. not-zero unready refl h z)
    (λ m. ⊎_elim (λ e. early_spared ready (t.untouched e).why h)
    (λ e. none_in_both c.answer.refusal left_to_refuse unready refl (level-left ready (t.zeroed e).why) h)
    (among-either c.answer.refusal early_numbers level_numbers m)) t.number

pub dds_told : (c : DdsCall) → DdsSame c → DdsTold c
dds_told c s ready out fits =
    let t = dds_total c s in
    let checked : Checked (dds_of c.opened.header) c.opened c.destination = record {
      limits = ready.limits;
      tables = ready.tables;
      out = out;
      room = omega (arith, ap (λ (n : Needed). n.bytes) (needed_so dds_of c.opened.header ready.limits out refl));
    } in
    ⊎_elim inl (λ m. inr (⊎_elim (λ e. absurd (not-checked (t.untouched e).why checked)) (λ e. level-left ready (t.zeroed e).why)
    (among-either c.answer.refusal early_numbers level_numbers m))) t.number

-- ---- the bytes that are told

pub bytes-total : (h : Header) (a : Needed) → a ≡ needed_for dds_of h → BytesTotal h a
bytes-total h a is = rw is (unfold needed_for in by (within_limits h) (goes_out h.format) refl refl)
  where
    by : (v o : Bool) → within_limits h ≡ v → goes_out h.format ≡ o
        → BytesTotal h (pick v (pick o (record { refusal = 0; bytes = (dds_of h).plan.total }) (record { refusal = 16; bytes = 0 }))
        (record { refusal = 2; bytes = 0 }))
    by false o ev eo =
        record {
          number = refl;
          limits = ((λ _. ev), (λ _. refl));
          format = ((λ z. absurd (omega arith)), (λ w. absurd (false≢true (sym ev ∙ w.0))));
          told = λ z. absurd (omega arith);
          nothing = λ _. refl;
        }
    by true false ev eo =
        record {
          number = refl;
          limits = ((λ z. absurd (omega arith)), (λ w. absurd (false≢true (sym w ∙ ev))));
          format = ((λ _. (ev, eo)), (λ _. refl));
          told = λ z. absurd (omega arith);
          nothing = λ _. refl;
        }
    by true true ev eo =
        record {
          number = refl;
          limits = ((λ z. absurd (omega arith)), (λ w. absurd (false≢true (sym w ∙ ev))));
          format = ((λ z. absurd (omega arith)), (λ w. absurd (false≢true (sym w.1 ∙ eo))));
          told = λ _. refl;
          nothing = λ f. absurd (f refl);
        }
