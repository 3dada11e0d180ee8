-- A chunk that is read is one chunk more of the run, and one that is refused ends it.
use Rattle.crn_format.proofs.Results.{passed}
use Rattle.crn_chunk_blocks.proofs.Ranges.{filled}
use Rattle.crn_unpacker.proofs.Steps.{chunk-goes, chunk-stops}
use Rattle.crn_unpacker.proofs.rows.chunk.Goals as goal

pub returns-in_err-e : goal.returns-in_err-e
returns-in_err-e c =
    rw (passed c.from_residual.ensures.1)
    (chunk-stops _ c.args.face c.args.cx c.args.cy c.requires.covered c.read_chunk.ensures c.in_err-e.was)

pub blocks-requires-clause-placeable : goal.blocks-requires-clause-placeable
blocks-requires-clause-placeable c =
    record {
      bytes = c.requires.fit.bytes;
      room = c.requires.fit.room;
      known = (c.read_chunk.ensures.on _ _ _ c.in_ok-e.was).1;
    }

pub blocks-requires-clause-all_filled : goal.blocks-requires-clause-all_filled
blocks-requires-clause-all_filled c = filled c.read_chunk.ensures c.in_ok-e.was c.requires.fit.served _ c.requires.fit.reach

pub returns : goal.returns
returns c =
    chunk-goes _ c.args.face c.args.cx c.args.cy c.requires.covered c.read_chunk.ensures c.in_ok-e.was c.blocks-2.ensures
