-- A turn of `entries`, and what it does to the lent buffer: `out` has k words of the palette, and beyond them what it held before.
use Prim.Native.Nat.{ℕ, suc, ◌+◌, ◌-◌, ◌<◌, ◌≤◌}
use mathlib.Core.List.{List, [], ◌++◌}
use mathlib.Core.Path.{◌≡◌, refl, sym, ap, ◌∙◌}
use native.Mathlib.Omega.{arith}
use native.Mathlib.Nat.{sub-zero}
use lib.ListN.{length, replicate, take, drop, take-append-drop}
use lib.Seq.{sets, sets-eq, length-sets, paste, take-paste, drop-paste, take-length, take_all, drop-drop, length-take-le}
use Rattle.crn_format.specs.Reading.{Reading, answer, next, Step, Place, spot, start, run, from_bits}
use Rattle.crn_format.specs.Palettes.{entries}
use Rattle.crn_format.specs.Opening.{zeros}
use Rattle.crn_symbol_codec.specs.Cursors.{place, Holds}
use Rattle.crn_symbol_codec.specs.declared.Cursor.{Cursor}
use Rattle.crn_palettes.specs.Filling.{answered, held, Fills, FillsFrom}
use Rattle.crn_symbol_codec.specs.Telling.{fault}
use Rattle.crn_palettes.specs.Reaching.{Reached, Reaches}
use Rattle.std.specs.Prelude.{Ok, Err}
use Rattle.crn_format.specs.declared.Fault.{Fault}
use Rattle.crn_palettes.proofs.Leaving.{Left, left_is, left-answer, left-next, left-stop, next-holds}

-- ---- the buffer

pub record Written (before : List ℕ) (k : ℕ) (out : List ℕ) : Type 0 where
  pub long : length out ≡ length before
  pub within : k ≤ length out
  pub beyond : drop k out ≡ drop k before

pub written_none : (out : List ℕ) → Written out 0 out
written_none out = record { long = refl; within = omega arith; beyond = refl }

-- words put after the first k
module _ (out : List ℕ) (k : ℕ) (ws : List ℕ) (h : k + length ws ≤ length out) where
  pasted : sets out k ws ≡ paste out k ws (length ws)
  pasted = sets-eq ws out k h ∙ ap (λ (l : List ℕ). take k out ++ l ++ drop (k + length ws) out) (sym (take-length ws))

  pub front-more : take (k + length ws) (sets out k ws) ≡ take k out ++ ws
  front-more = ap (take (k + length ws)) pasted ∙ take-paste out k ws (length ws) (omega arith) (omega arith) ∙ ap
      (λ (l : List ℕ). take k out ++ l) (take-length ws)

  back_same : drop (k + length ws) (sets out k ws) ≡ drop (k + length ws) out
  back_same = ap (drop (k + length ws)) pasted ∙ drop-paste out k ws (length ws) (omega arith) (omega arith)

  pub written-more : {before : List ℕ} → Written before k out → Written before (k + length ws) (sets out k ws)
  written-more {before} w =
      let l = length-sets out k ws in
      record {
        long = l ∙ w.long;
        within = omega (arith, l);
        beyond = back_same ∙ sym (drop-drop (length ws) k out) ∙ ap (drop (length ws)) w.beyond ∙ drop-drop (length ws) k before;
      }

-- ---- the run

-- at the cursor `at`, after i of the n entries, which took k words, with the running values vs
pub record Entered (seg : List ℕ) (turn : List ℕ → Reading (List ℕ)) (words : List ℕ → List ℕ) (n i k : ℕ) (vs out : List ℕ) (at : Cursor)
    (whole : Step Place (List ℕ)) : Type 0 where
  pub left : Left seg (entries turn words (n - i) vs (take k out)) at whole

-- before the first entry
pub entries_none : (seg : List ℕ) (turn : List ℕ → Reading (List ℕ)) (words : List ℕ → List ℕ) (n : ℕ) (vs out : List ℕ) (c : Cursor)
    (b : ℕ)
    → Entered seg turn words n 0 0 vs out c (run (from_bits seg) (entries turn words n vs []) (spot (place c) b))
entries_none seg turn words n vs out c b = record { left = record { blamed = b; same = rw sub-zero } }

module _ {seg : List ℕ} {turn : List ℕ → Reading (List ℕ)} {words : List ℕ → List ℕ} {n i k : ℕ} {vs out : List ℕ} {at : Cursor}
    {whole : Step Place (List ℕ)} (x : Entered seg turn words n i k vs out at whole) where
  -- the next entry is read first
  entry_first : i < n → Left seg (next (turn vs) λ now. entries turn words (n - (i + 1)) now (take k out ++ words now)) at whole
  unfolding entries
  entry_first h =
      let m : n - i ≡ suc (n - (i + 1)) = omega arith in
      left_is (ap (λ (j : ℕ). entries turn words j vs (take k out)) m) x.left

  module _ (h : i < n) {now : List ℕ} {r : Reached} (t : (b : ℕ) → Reaches seg (turn vs) at b now r) where
    -- an entry, whose words ws are put into the buffer
    pub entry_more : {d : Cursor} {ws : List ℕ} → r ≡ Ok d → words now ≡ ws → k + length ws ≤ length out → Entered seg turn words n (i + 1)
        (k + length ws) now (sets out k ws) d whole
    entry_more {d} {ws} e f g =
        record {
          left =
              left_is (ap (λ (l : List ℕ). entries turn words (n - (i + 1)) now l)
              (ap (λ (l : List ℕ). take k out ++ l) f ∙ sym (front-more out k ws g)))
              (left-next _ (entry_first h) t e);
        }

    pub entry-refused : {y : Fault} → r ≡ Err y → whole ≡ fault y
    entry-refused e = left-stop _ (entry_first h) t e

  pub entries_done : n ≤ i → Left seg (answer (take k out)) at whole
  unfolding entries
  entries_done h =
      let m : n - i ≡ 0 = omega arith in
      left_is (ap (λ (j : ℕ). entries turn words j vs (take k out)) m) x.left

-- ---- how a palette ends

module _ {seg : List ℕ} {m : Reading (List ℕ)} {before : List ℕ} where
  pub fills_all : {out : List ℕ} {k : ℕ} {at : Cursor} {whole : Step Place (List ℕ)} → run (from_bits seg) m start ≡ whole → Left seg
      (answer (take k out)) at whole → Written before k out
      → Fills seg m before out (Ok tt)
  fills_all {out} {k} q l w =
      let e = q ∙ left-answer l in
      record {
        answer = sym (ap answered e);
        holds =
            sym (ap (held before) e
            ∙ ap (λ (j : ℕ). take k out ++ drop j before) (length-take-le k out w.within)
            ∙ ap (λ (l : List ℕ). take k out ++ l) (sym w.beyond)
            ∙ take-append-drop k out);
      }

  pub fills_none : (out : List ℕ) {y : Fault} {after : List ℕ} → run (from_bits seg) m start ≡ fault y → length out ≡ length
      before → after ≡ zeros out
      → Fills seg m before after (Err y)
  fills_none out e l z = record { answer = sym (ap answered e); holds = z ∙ ap (λ (j : ℕ). replicate j 0) l ∙ sym (ap (held before) e) }

-- ---- the loop over the entries, whatever the codes t of the palette are that its decoder tables are known to have

-- at the cursor `at`, after i of the n entries that are read from c on, which took k words
pub record Filling {T : Type 0} (Known : T → Type 0) (seg : List ℕ) (turn : T → List ℕ → Reading (List ℕ)) (words : List ℕ → List ℕ) (n : ℕ)
    (before first : List ℕ) (c : Cursor) (i k : ℕ) (out vs : List ℕ) (at : Cursor) : Type 0 where
  pub holds : Holds seg at
  pub within : i ≤ n
  pub written : Written before k out
  pub entered : (t : T) → Known t → (b : ℕ) → Entered seg (turn t) words n i k vs out at
      (run (from_bits seg) (entries (turn t) words n first []) (spot (place c) b))

pub filling_none : {T : Type 0} (Known : T → Type 0) (seg : List ℕ) (turn : T → List ℕ → Reading (List ℕ)) (words : List ℕ → List ℕ) (n : ℕ)
    (out vs : List ℕ) (c : Cursor) → Holds seg c
    → Filling Known seg turn words n out vs c 0 0 out vs c
filling_none Known seg turn words n out vs c h =
    record { holds = h; within = omega arith; written = written_none out; entered = λ t q b. entries_none seg (turn t) words n vs out c b }

module _ {T : Type 0} {Known : T → Type 0} {seg : List ℕ} {turn : T → List ℕ → Reading (List ℕ)} {words : List ℕ → List ℕ} {n : ℕ}
    {before first : List ℕ} {c : Cursor} {i k : ℕ} {out vs : List ℕ} {at : Cursor}
    (x : Filling Known seg turn words n before first c i k out vs at) where
  module _ (h : i < n) {now : List ℕ} {r : Reached} (turns : (t : T) → Known t → (b : ℕ) → Reaches seg (turn t vs) at b now r) where
    -- an entry, whose words ws are put into the buffer
    pub filling_more : {d : Cursor} {ws after : List ℕ} {t : T} → Known t → r ≡ Ok d → words now ≡ ws → k + length ws ≤ length out → after ≡
        sets out k ws
        → Filling Known seg turn words n before first c (i + 1) (k + length ws) after now d
    filling_more {d} {ws} {after} {t} q e f g z =
        rw z
        (record {
          holds = next-holds (Holds seg) (turns t q 0).holds e;
          within = omega arith;
          written = written-more out k ws g x.written;
          entered = λ t q b. entry_more (x.entered t q b) h (turns t q) e f g;
        })

    -- an entry that is refused, where the buffer is then cleared
    pub filling_refused : {y : Fault} {after : List ℕ} → r ≡ Err y → after ≡ zeros out → (t : T) → Known t → FillsFrom seg c
        (entries (turn t) words n first []) before after (Err y)
    filling_refused e z t q m b s = fills_none out (s ∙ entry-refused (x.entered t q b) h (turns t q) e) x.written.long z

    -- the same where the buffer is the first words of a longer one, which is then cleared whole
    pub filling_failed : {y : Fault} {whole : List ℕ} (after : List ℕ) → r ≡ Err y → length after ≡ length whole → (t : T) → Known t → FillsFrom seg c
        (entries (turn t) words n first []) whole (zeros after) (Err y)
    filling_failed after e l t q m b s = fills_none after (s ∙ entry-refused (x.entered t q b) h (turns t q) e) l refl

  pub filling_done : n ≤ i → (t : T) → Known t → FillsFrom seg c (entries (turn t) words n first []) before out (Ok tt)
  filling_done h t q m b s = fills_all s (entries_done (x.entered t q b) h) x.written

  -- the same where the buffer is the first words of a longer one
  pub filling_front : {whole after : List ℕ} {j : ℕ} → n ≤ i → length out ≤ k → length out ≡ j → after ≡ out ++ drop j whole → (t : T)
      → Known t → FillsFrom seg c (entries (turn t) words n first []) whole after (Ok tt)
  filling_front {whole} h g l z t q m b s =
      let e = s ∙ left-answer (entries_done (x.entered t q b) h) in
      record {
        answer = sym (ap answered e);
        holds =
            z
            ∙ ap (λ (j : ℕ). out ++ drop j whole) (sym l)
            ∙ ap (λ (w : List ℕ). w ++ drop (length w) whole) (sym (take_all k out g))
            ∙ sym (ap (held whole) e);
      }
