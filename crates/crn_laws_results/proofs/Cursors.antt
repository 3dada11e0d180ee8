-- Cursors, and what is taken from them: the value and the place after it are fixed, or the refusal is. How many bits a cursor has at hand is
-- left open.
use Prim.Native.Nat.{ℕ}
use mathlib.Core.Path.{◌≡◌, sym, ap}
use mathlib.Core.List.{List}
use Rattle.std.specs.Prelude.{Ok, Err}
use Rattle.crn_format.specs.Codes.{symbol_at, failed}
use Rattle.crn_format.specs.Reading.{Want}
use Rattle.crn_symbol_codec.specs.Cursors.{place}
use Rattle.crn_symbol_codec.specs.Taking.{Taken, took, Takes}
use Rattle.crn_symbol_codec.specs.Drawing.{drew}
use Rattle.crn_symbol_codec.specs.declared.Cursor.{Cursor}
use Rattle.crn_symbol_codec.proofs.start.Reads as start
use Rattle.crn_symbol_codec.proofs.refill.Reads as refill
use Rattle.crn_symbol_codec.proofs.number.Reads as number
use Rattle.crn_symbol_codec.proofs.draw_ready.Reads as draw-ready
use Rattle.crn_symbol_codec.proofs.draw.Reads as draw
use Rattle.crn_symbol_codec.specs.Decoders.{SomeCode}
use Rattle.crn_short_draw.proofs.ready.Reads as ready
use Rattle.crn_short_draw.proofs.draw.Reads as short-draw
use Rattle.crn_short_draw.proofs.number.Reads as short-number
use Rattle.crn_short_draw.proofs.filled.Reads as filled
use Rattle.crn_laws_results.specs.Settled.{Settled, SettledIf, alike}
use Rattle.crn_laws_results.proofs.Steps.{got_tells, refused_tells, got_or_refused}

-- ---- a cursor's place

pub start-settled : Settled start.Post (λ a r e. place r)
start-settled _ _ _ _ _ _ _ p q = alike p.1 q.1

pub refill-settled : Settled refill.Post (λ a r e. place r)
refill-settled _ _ _ _ _ _ _ p q = alike p.stays q.stays

pub ready-settled : Settled ready.Post (λ a r e. place r)
ready-settled _ _ _ _ _ _ _ p q = alike p.1 q.1

pub filled-settled : Settled filled.Post (λ a r e. place r)
filled-settled _ _ _ _ _ _ _ p q = alike p.stays q.stays

-- ---- what is taken: `drew` is the value and the place after it, or the refusal

took_tells : (p : ℕ) (r s : Taken) → took p 0 r ≡ took p 0 s → drew r ≡ drew s
took_tells p (Ok (v, c)) (Ok (w, d)) e = let both = got_tells e in λ i. symbol_at (both.0 i) (both.1 i).at
took_tells p (Ok (v, c)) (Err n) e = absurd (got_or_refused e)
took_tells p (Err n) (Ok (v, c)) e = absurd (got_or_refused (sym e))
took_tells p (Err n) (Err m) e = ap failed (refused_tells e).0

pub takes-settled : {seg : List ℕ} {x : Want} {c : Cursor} {r s : Taken} → Takes seg x c r → Takes seg x c s → drew r ≡ drew s
takes-settled {c = c} {r = r} {s = s} p q = took_tells (place c) r s (alike (p.same 0) (q.same 0))

pub number-settled : Settled number.Post (λ a r e. drew r)
number-settled _ _ _ _ _ _ _ p q = takes-settled p q

pub short_number-settled : Settled short-number.Post (λ a r e. drew r)
short_number-settled _ _ _ _ _ _ _ p q = takes-settled p q

-- ---- a draw, from a table that is some code's

pub draw_ready-settled : SettledIf (λ (code, _) r. SomeCode code.lookup.now code.sorted.now) draw-ready.Post (λ a r e. drew r)
draw_ready-settled _ _ _ _ _ _ _ h _ p q = takes-settled (p.0 h.code h.decodes) (q.0 h.code h.decodes)

pub draw-settled : SettledIf (λ (code, _) r. SomeCode code.lookup.now code.sorted.now) draw.Post (λ a r e. drew r)
draw-settled _ _ _ _ _ _ _ h _ p q = takes-settled (p h.code h.decodes) (q h.code h.decodes)

pub short_draw-settled : SettledIf (λ (code, _) r. SomeCode code.lookup.now code.sorted.now) short-draw.Post (λ a r e. drew r)
short_draw-settled _ _ _ _ _ _ _ h _ p q = takes-settled (p h.code h.decodes) (q h.code h.decodes)
