use Prim.Native.Nat.{ℕ, ◌+◌, ◌-◌, ◌*◌, ◌/◌, ◌^◌, ◌<◌, ◌≤◌}
use mathlib.Core.List.{List}
use mathlib.Core.Path.{◌≡◌, refl, ap, ◌∙◌}
use native.Mathlib.Omega.{arith}
use lib.ListN.{get_or}
use Rattle.crn_symbol_codec.specs.Decoders.{Usable, longest_in, front}
use Rattle.crn_symbol_codec.proofs.Seeking.{Long, front-twice, long_begins, long_done, long-small, long-found, long-more}
use Rattle.crn_symbol_codec.proofs.long_entry.Goals as goal

-- the turn's bits
window : (lookup sorted : List ℕ) (bits k : ℕ) → Usable lookup sorted → k < longest_in lookup
    → bits / 2 ^ 48 / 2 ^ (16 - (k + 1)) ≡ front 64 bits (k + 1)
window lookup sorted bits k u l = front-twice bits 48 (16 - (k + 1)) (k + 1) (omega (arith, u.most))

-- what keeps the turn's sums in range
abbrev Small : List ℕ → ℕ → ℕ → ℕ → ℕ → Type 0
Small lookup bits k first offset =
    (first ≤ bits / 2 ^ 48 / 2 ^ (16 - (k + 1))) × (bits / 2 ^ 48 / 2 ^ (16 - (k + 1)) < 65536)
    × (get_or lookup (8 + (k + 1)) 0 ≤ 65535) × (offset ≤ 65535 * k)

small : {lookup sorted : List ℕ} (bits k first offset : ℕ) → Usable lookup sorted → Long lookup sorted bits k first offset
    → bits < 2 ^ 64 → k < longest_in lookup → Small lookup bits k first offset
small {lookup} {sorted} bits k first offset u i b l =
    let s = long-small u i b l in
    rw (window lookup sorted bits k u l) (i.low l, s.0, s.1, i.few l)

pub loop-k-init : goal.loop-k-init
loop-k-init c = long_begins c.requires.usable c.requires.not_short

pub overflow_add-first : goal.overflow_add-first
overflow_add-first c = omega (
  arith,
  small c.args.bits c.loop-k.k c.loop-k.first c.loop-k.offset c.requires.usable c.loop-k.invariant
      c.ranges.bits.fits (omega arith),
)

pub overflow_sub-v-then-v-first : goal.overflow_sub-v-then-v-first
overflow_sub-v-then-v-first c = omega (
  arith,
  small c.args.bits c.loop-k.k c.loop-k.first c.loop-k.offset c.requires.usable
      c.loop-k.invariant c.ranges.bits.fits (omega arith),
)

pub overflow_add-offset : goal.overflow_add-offset
overflow_add-offset c = omega (
  arith,
  small c.args.bits c.loop-k.k c.loop-k.first c.loop-k.offset c.requires.usable c.loop-k.invariant
      c.ranges.bits.fits (omega arith),
)

pub overflow_cast-offset : goal.overflow_cast-offset
overflow_cast-offset c = omega (
  arith,
  small c.args.bits c.loop-k.k c.loop-k.first c.loop-k.offset c.requires.usable c.loop-k.invariant
      c.ranges.bits.fits (omega arith),
)

pub overflow_mul-result : goal.overflow_mul-result
overflow_mul-result c = omega (arith, c.symbol.ensures.1)

pub overflow_cast-result : goal.overflow_cast-result
overflow_cast-result c = omega (arith, c.requires.usable.most)

pub overflow_add-result : goal.overflow_add-result
overflow_add-result c = omega (arith, c.symbol.ensures.1, c.requires.usable.most)

pub returns-then-v-first : goal.returns-then-v-first
returns-then-v-first c =
    ap (λ (y : _). 64 * y + (c.loop-k.k + 1)) c.symbol.ensures.0
    ∙ long-found c.requires.usable c.loop-k.invariant _ _ (omega arith)
    (window c.args.code.lookup.now c.args.code.sorted.now c.args.bits c.loop-k.k c.requires.usable (omega arith)) refl (omega arith)

pub overflow_add-first-in-loop-k : goal.overflow_add-first-in-loop-k
overflow_add-first-in-loop-k c = omega (
  arith,
  small c.args.bits c.loop-k.k c.loop-k.first c.loop-k.offset c.requires.usable
      c.loop-k.invariant c.ranges.bits.fits (omega arith),
)

pub overflow_mul-first : goal.overflow_mul-first
overflow_mul-first c = omega (
  arith,
  small c.args.bits c.loop-k.k c.loop-k.first c.loop-k.offset c.requires.usable c.loop-k.invariant
      c.ranges.bits.fits (omega arith),
)

pub overflow_add-offset-in-loop-k : goal.overflow_add-offset-in-loop-k
overflow_add-offset-in-loop-k c = omega (
  arith,
  small c.args.bits c.loop-k.k c.loop-k.first c.loop-k.offset c.requires.usable
      c.loop-k.invariant c.ranges.bits.fits (omega arith),
)

pub loop-k-preserved : goal.loop-k-preserved
loop-k-preserved c =
    long-more c.requires.usable c.loop-k.invariant _ _ (omega arith)
    (window c.args.code.lookup.now c.args.code.sorted.now c.args.bits c.loop-k.k c.requires.usable (omega arith)) refl (omega arith)

pub returns : goal.returns
returns c = long_done c.requires.usable c.loop-k.invariant (omega arith)
