-- The header look, by the tests that led to each return.
use mathlib.Core.Path.{◌≡◌, sym, ap, ◌∙◌}
use mathlib.Core.Bool.{true}
use Rattle.crn_format.specs.Header.{signed_in, header_of, within_limits, sizes_in}
use Rattle.crn_format.specs.Look.{look_at}
use Rattle.crn_decomp.proofs.header_look.look_at.Goals as goal

pub returns-then-not-is_signed : goal.returns-then-not-is_signed
unfolding look_at
returns-then-not-is_signed c = simp (sym c.is_signed.ensures ∙ c.if-not-is_signed.true)

pub returns-then-not-within_limits : goal.returns-then-not-within_limits
unfolding look_at
returns-then-not-within_limits c =
    let known : signed_in c.args.head.now c.args.length ≡ true = sym c.is_signed.ensures ∙ c.if-not-is_signed.false in
    let beyond = ap within_limits (sym c.header_of-header.ensures) ∙ sym c.within_limits.ensures ∙ c.if-not-within_limits.true in
    simp (known, beyond)

pub returns-then-not-sizes_hold : goal.returns-then-not-sizes_hold
unfolding look_at
returns-then-not-sizes_hold c =
    let known : signed_in c.args.head.now c.args.length ≡ true = sym c.is_signed.ensures ∙ c.if-not-is_signed.false in
    let within : within_limits (header_of c.args.head.now) ≡ true = ap within_limits (sym c.header_of-header.ensures) ∙ sym
    c.within_limits.ensures ∙ c.if-not-within_limits.false in
    let unsized = ap (sizes_in _) (sym c.header_of-header.ensures) ∙ sym c.sizes_hold.ensures ∙ c.if-not-sizes_hold.true in
    simp (known, within, unsized)

pub returns : goal.returns
unfolding look_at
returns c =
    let known : signed_in c.args.head.now c.args.length ≡ true = sym c.is_signed.ensures ∙ c.if-not-is_signed.false in
    let within : within_limits (header_of c.args.head.now) ≡ true = ap within_limits (sym c.header_of-header.ensures) ∙ sym
    c.within_limits.ensures ∙ c.if-not-within_limits.false in
    let header = c.header_of-header.ensures in
    let sized = ap (sizes_in _) (sym header) ∙ sym c.sizes_hold.ensures ∙ c.if-not-sizes_hold.false in
    simp (known, within, sized, header)
