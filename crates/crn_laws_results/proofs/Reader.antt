-- The reader that keeps its segment: what is taken from it, and where it is then, are fixed; how many bits its cursor has at hand is left
-- open.
use Prim.Native.Nat.{ℕ}
use mathlib.Core.Path.{◌≡◌, refl, sym, ap, ◌∙◌}
use Rattle.std.specs.Prelude.{List, Ok, Err}
use Rattle.std.specs.Borrow.{Bor}
use Rattle.std.specs.declared.result.Result.{Result}
use Rattle.crn_format.specs.Codes.{Drawn, symbol_at, failed}
use Rattle.crn_format.specs.Reading.{Want, Place}
use Rattle.crn_format.specs.declared.Fault.{Fault}
use Rattle.crn_symbol_codec.specs.Cursors.{place}
use Rattle.crn_symbol_codec.specs.Taking.{Taken, Takes}
use Rattle.crn_symbol_codec.specs.Decoders.{SomeCode}
use Rattle.crn_symbol_codec.specs.Drawing.{drew}
use Rattle.crn_reader.specs.Moving.{moved_by}
use Rattle.crn_reader.specs.Pairs.{step_of}
use Rattle.crn_reader.specs.declared.Reader.{Reader}
use Rattle.crn_reader.specs.declared.Pair.{Pair}
use Rattle.crn_reader.proofs.Reader.make.Reads as make
use Rattle.crn_reader.proofs.Reader.place.Reads as placing
use Rattle.crn_reader.proofs.Reader.number.Reads as number
use Rattle.crn_reader.proofs.Reader.draw.Reads as draw
use Rattle.crn_reader.proofs.read_pair.Reads as read-pair
use Rattle.crn_laws_results.specs.Settled.{Settled, SettledIf, the_answer, alike}
use Rattle.crn_laws_results.specs.Seen.{spot_of}
use Rattle.crn_laws_results.proofs.Steps.{got_tells, refused_tells, got_or_refused}
use Rattle.crn_laws_results.proofs.Numbers.{fault_tells}
use Rattle.crn_laws_results.proofs.Cursors.{takes-settled}

step_tells : (r s : Result Pair Fault) → step_of r ≡ step_of s → r ≡ s
step_tells (Ok p) (Ok q) e =
    let both = got_tells e in λ i. Ok (record { number = (both.0 i).0; symbol = (both.0 i).1; at = (both.1 i).at })
step_tells (Ok p) (Err f) e = absurd (got_or_refused e)
step_tells (Err f) (Ok q) e = absurd (got_or_refused (sym e))
step_tells (Err f) (Err g) e = let both = refused_tells e in ap Err (fault_tells f g both.0 (ap (λ (w : Place). w.at) both.1))

pub read_pair-settled : SettledIf (λ (code, _) r. SomeCode code.lookup.now code.sorted.now) read-pair.Post the_answer
read_pair-settled _ _ _ r s _ _ h _ p q = step_tells r s (alike (p h.code h.decodes) (q h.code h.decodes))

-- ---- the functions that hold or lend a reader

pub make-settled : Settled make.Post (λ a r e. spot_of r)
make-settled _ _ _ _ _ _ _ p q = λ i. (alike p.0 q.0 i, alike p.2 q.2 i)

pub place-settled : Settled placing.Post the_answer
place-settled _ _ _ _ _ _ _ p q = alike p q

-- the place after an answer
place_after : ℕ → Drawn → ℕ
place_after p (symbol_at s q) = q
place_after p (failed n) = p

after : (r : Reader) (t : Taken) → spot_of (moved_by r t) ≡ (r.seg, place_after (place r.cursor) (drew t))
unfolding place_after
after r (Ok (v, d)) = refl
after r (Err n) = refl

-- what is taken, and the reader after it: `before` and those after it are what is lent
taken-settled : {x : Want} {before r s : Reader} {t u : Taken} → Takes before.seg.now x before.cursor t → r ≡ moved_by before t
    → Takes before.seg.now x before.cursor u → s ≡ moved_by before u
    → ◌≡◌ {A = Drawn × (Bor (List ℕ) × ℕ)} (drew t, spot_of r) (drew u, spot_of s)
taken-settled {before = before} {t = t} {u = u} p e q f =
    let same = takes-settled p q in
    let moved = ap {B = Bor (List ℕ) × ℕ} (λ d. (before.seg, place_after (place before.cursor) d)) same in
    λ i. (same i, (ap spot_of e ∙ after before t ∙ moved ∙ sym (after before u) ∙ sym (ap spot_of f)) i)

pub number-settled : Settled {X = Drawn × (Bor (List ℕ) × ℕ)} number.Post (λ a t (r, _). (drew t, spot_of r.now))
number-settled _ _ _ _ _ _ _ p q = taken-settled p.0 p.1 q.0 q.1

pub draw-settled : SettledIf {X = Drawn × (Bor (List ℕ) × ℕ)} (λ (r, (code, _)) t. SomeCode code.lookup.now code.sorted.now) draw.Post
    (λ a t (r, _). (drew t, spot_of r.now))
draw-settled _ _ _ _ _ _ _ h _ p q = taken-settled (p.0 h.code h.decodes) p.1 (q.0 h.code h.decodes) q.1
