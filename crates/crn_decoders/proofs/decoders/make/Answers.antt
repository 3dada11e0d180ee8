-- A table is built in its part of the two lent arrays.
use mathlib.Core.Path.{◌≡◌, ◌∙◌}
use native.Mathlib.Omega.{arith}
use lib.ListN.{length, take}
use lib.Seq.{length-take-le}
use Rattle.crn_decoders.proofs.Parts.{taken-long}
use Rattle.crn_decoders.proofs.Made.{place_in, one_more}
use Rattle.crn_decoders.proofs.decoders.make.Goals as goal

pub build-requires : goal.build-requires
build-requires c =
    let lookup_at = place_in c.args.s.lookup_step (length c.args.lookup.now) c.args.k c.requires.able.lookups c.requires.k_in in
    let sorted_at = place_in c.args.s.sorted_step (length c.args.sorted.now) c.args.k c.requires.able.sorteds c.requires.k_in in
    let l : length (take c.args.count c.args.lengths.now) ≡ c.args.count = length-take-le c.args.count c.args.lengths.now
    c.requires.fair.inside in
    let m = taken-long c.args.s.lookup_step c.args.lookup.now c.args.k lookup_at in
    let n = taken-long c.args.s.sorted_step c.args.sorted.now c.args.k sorted_at in
    record {
      lengths_len_bound = (omega (arith, l, c.requires.fair.few), c.requires.fair.short);
      most_nonzero =
          (c.requires.able.some, c.requires.able.few, omega (arith, c.requires.able.entries, m), omega (arith, l, c.requires.fair.fits, n));
    }

pub returns : goal.returns
returns c =
    let lookup_at = place_in c.args.s.lookup_step (length c.args.lookup.now) c.args.k c.requires.able.lookups c.requires.k_in in
    let sorted_at = place_in c.args.s.sorted_step (length c.args.sorted.now) c.args.k c.requires.able.sorteds c.requires.k_in in
    λ cs e coded.
    one_more cs c.args.k c.args.s c.args.lookup.now c.args.sorted.now c.build.new.lookup _ c.build.new.sorted _
    lookup_at
    sorted_at
    (c.build.auto.lookup ∙ taken-long c.args.s.lookup_step c.args.lookup.now c.args.k
    lookup_at)
    (c.build.auto.sorted ∙ taken-long c.args.s.sorted_step c.args.sorted.now c.args.k
    sorted_at) e c.build.ensures coded
