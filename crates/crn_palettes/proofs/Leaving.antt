-- What is left to be run from a cursor, while a whole run goes on.
use Prim.Native.Nat.{ℕ}
use mathlib.Core.List.{List}
use mathlib.Core.Path.{◌≡◌, sym, ap, subst, ◌∙◌}
use Rattle.crn_format.specs.Reading.{a_symbol, Reading, answer, mark, draw, next, Step, got, refused, Place, spot, run, from_bits}
use Rattle.crn_format.proofs.Steps.{answered as run-answer, at_mark, go_on, stop}
use Rattle.crn_symbol_codec.specs.Cursors.{place, Holds}
use Rattle.crn_symbol_codec.specs.Taking.{Taken, Takes}
use Rattle.crn_symbol_codec.specs.Telling.{fault}
use Rattle.crn_symbol_codec.specs.declared.Cursor.{Cursor}
use Rattle.crn_symbol_codec.proofs.Serving.{taken-value, taken-failed}
use Rattle.crn_palettes.specs.Reaching.{Reached, reached, Next, Reaches}
use Rattle.std.specs.Prelude.{Ok, Err}
use Rattle.crn_format.specs.Refusals.{number_of}
use Rattle.crn_format.specs.declared.Refusal.{Refusal}
use Rattle.crn_format.specs.declared.Fault.{Fault}

-- the rest, run from the cursor `at`, where `blamed` is blamed, ends as the whole does
pub record Left (seg : List ℕ) (rest : Reading (List ℕ)) (at : Cursor) (whole : Step Place (List ℕ)) : Type 0 where
  pub blamed : ℕ
  pub same : run (from_bits seg) rest (spot (place at) blamed) ≡ whole

module _ {seg : List ℕ} {at : Cursor} {whole : Step Place (List ℕ)} where
  pub left_is : {m n : Reading (List ℕ)} → m ≡ n → Left seg m at whole → Left seg n at whole
  left_is e l = record {
    blamed = l.blamed;
    same = ap (λ (m : Reading (List ℕ)). run (from_bits seg) m (spot (place at) l.blamed)) (sym e) ∙
        l.same;
  }

  -- where the rest notes its place, that is what is blamed
  pub at_noted : {m : Reading (List ℕ)} → Left seg (mark m) at whole → run (from_bits seg) m (spot (place at) (place at)) ≡ whole
  at_noted {m} l = sym (at_mark seg m (place at) l.blamed) ∙ l.same

  pub left-mark : {m : Reading (List ℕ)} → Left seg (mark m) at whole → Left seg m at whole
  left-mark l = record { blamed = place at; same = at_noted l }

  pub left-answer : {vs : List ℕ} (l : Left seg (answer vs) at whole) → whole ≡ got vs (spot (place at) l.blamed)
  left-answer {vs} l = sym l.same ∙ run-answer (from_bits seg) vs _

  -- ---- where the rest draws a symbol
  module _ {ls : List ℕ} {f : ℕ → Reading (List ℕ)} (l : Left seg (draw ls f) at whole) {r : Taken} (t : Takes seg (a_symbol ls) at r) where
    pub left-drawn : {s : ℕ} {d : Cursor} → r ≡ Ok (s, d) → Left seg (f s) d whole
    left-drawn e = record { blamed = l.blamed; same = sym (taken-value t f l.blamed e) ∙ l.same }

    pub left-failed : {n : Refusal} → r ≡ Err n → whole ≡ refused (number_of n) (spot (place at) (place at))
    left-failed e = sym l.same ∙ taken-failed t f l.blamed e

  -- ---- where the rest is a reading and then another
  module _ {m : Reading (List ℕ)} (k : List ℕ → Reading (List ℕ)) (l : Left seg (next m k) at whole) {vs : List ℕ} {r : Reached}
      (t : (b : ℕ) → Reaches seg m at b vs r) where
    pub left-next : {d : Cursor} → r ≡ Ok d → Left seg (k vs) d whole
    left-next {d} e =
        let x = t l.blamed in
        record { blamed = x.blamed; same = sym (go_on (from_bits seg) m k _ (x.same ∙ ap (reached vs x.blamed) e)) ∙ l.same }

    pub left-stop : {y : Fault} → r ≡ Err y → whole ≡ fault y
    left-stop e = let x = t l.blamed in sym l.same ∙ stop (from_bits seg) m k _ (x.same ∙ ap (reached vs x.blamed) e)

-- ---- how a part of a palette ends

module _ {seg : List ℕ} {m : Reading (List ℕ)} {c : Cursor} {b : ℕ} where
  pub reaches_to : {vs : List ℕ} {d : Cursor} → Left seg (answer vs) d (run (from_bits seg) m (spot (place c) b)) → Holds seg d → Reaches
      seg m c b vs (Ok d)
  reaches_to l h = record { blamed = l.blamed; same = left-answer l; holds = h }

  pub reaches-refused : {vs : List ℕ} {y : Fault} → run (from_bits seg) m (spot (place c) b) ≡ fault y → Reaches seg m c b vs (Err y)
  reaches-refused e = record { blamed = 0; same = e; holds = tt }

-- the next cursor holds
pub next-holds : (holds : Cursor → Type 0) {r : Reached} {d : Cursor} → Next holds r → r ≡ Ok d → holds d
next-holds holds h e = subst (Next holds) e h
