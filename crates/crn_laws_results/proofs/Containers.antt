-- Containers: what is told of a header, the bytes put, the levels in their places, a whole file. Every lent byte is fixed.
use Prim.Native.Nat.{ℕ}
use mathlib.Core.Path.{◌≡◌, sym, ap}
use mathlib.Core.List.{List}
use Rattle.std.specs.Prelude.{Ok, Err}
use Rattle.std.specs.declared.result.Result.{Result}
use Rattle.crn_format.specs.declared.Refusal.{Refusal}
use Rattle.picture.specs.declared.Written.{Written}
use Rattle.picture.specs.declared.Needed.{Needed}
use Rattle.picture.specs.Writing.{Stop, Put, put, stopped, Writing, written, refused}
use Rattle.picture.specs.Answers.{Writes, needed}
use Rattle.picture.proofs.goes_out.Reads as goes-out
use Rattle.picture.proofs.chain_bytes.Reads as chain-bytes
use Rattle.picture.proofs.put_bytes.Reads as put-bytes
use Rattle.picture.proofs.put_words.Reads as put-words
use Rattle.picture_levels.specs.declared.Put.{Put as LevelsPut}
use Rattle.picture_levels.specs.declared.NotPut.{NotPut}
use Rattle.picture_levels.specs.Puts.{sums_of, stop_of, Puts}
use Rattle.picture_levels.proofs.put_levels.Reads as put-levels
use Rattle.dds.proofs.dds_bytes.Reads as dds-bytes
use Rattle.dds.proofs.write_dds.Reads as write-dds
use Rattle.crunch_abi.proofs.crunch_dds_bytes.Reads as crunch-dds-bytes
use Rattle.crunch_abi.proofs.crunch_write_dds_parts.Reads as crunch-write-dds-parts
use Rattle.crn_laws_results.specs.Settled.{Settled, the_answer, alike, alike₂}
use Rattle.crn_format.proofs.Numbers.{number-one}
use Rattle.crn_laws_results.proofs.Numbers.{some_number}

pub goes_out-settled : Settled goes-out.Post the_answer
goes_out-settled _ _ _ _ _ _ _ p q = alike p q

pub chain_bytes-settled : Settled chain-bytes.Post the_answer
chain_bytes-settled _ _ _ _ _ _ _ p q = alike p q

pub put_bytes-settled : Settled put-bytes.Post (λ a r (bytes, (at, (dst, _))). dst.now)
put_bytes-settled _ _ _ _ _ _ _ p q = alike p q

pub put_words-settled : Settled put-words.Post (λ a r (ws, (at, (dst, _))). dst.now)
put_words-settled _ _ _ _ _ _ _ p q = alike p q

-- what the levels' sums, or a refusal in numbers, say of the answer: all
sums_tell : (p q : LevelsPut) → sums_of p ≡ sums_of q → p ≡ q
sums_tell p q e = λ i. record { symbols = (e i).symbols; cutouts = (e i).cutouts }

stop_tells : (p q : NotPut) → stop_of p ≡ stop_of q → p ≡ q
stop_tells p q e =
    λ i. record {
      refusal = number-one (ap (λ (x : Stop). x.refusal) e) i;
      level = (e i).level;
      at = (e i).bit;
      symbols = (e i).symbols;
    }

puts_settled : (w : Put) (before : List ℕ) {d e : List ℕ} (r s : Result LevelsPut NotPut) → Puts w before d r → Puts w before e s
    → ◌≡◌ {A = Result LevelsPut NotPut × List ℕ} (r, d) (s, e)
unfolding Puts
puts_settled (put t x) before (Ok a) (Ok b) p q = λ i. (Ok (sums_tell a b (alike p.0 q.0) i), alike p.1 q.1 i)
puts_settled (put t x) before (Ok a) (Err b) p q = absurd q
puts_settled (put t x) before (Err a) s p q = absurd p
puts_settled (stopped t) before (Ok a) s p q = absurd p
puts_settled (stopped t) before (Err a) (Ok b) p q = absurd q
puts_settled (stopped t) before (Err a) (Err b) p q = λ i. (Err (stop_tells a b (alike p.0 q.0) i), alike p.1 q.1 i)

pub put_levels-settled : Settled {X = Result LevelsPut NotPut × List ℕ} put-levels.Post
    (λ a r (header, (tables, (bytes, (palettes, (head, (chain, (dst, _))))))). (r, dst.now))
put_levels-settled _ _ _ r s _ _ p q = puts_settled _ _ r s p q

-- what is told by numbers tells the answer
needed_tells : (r s : Result ℕ Refusal) → needed r ≡ needed s → r ≡ s
needed_tells (Ok m) (Ok n) e = λ i. Ok (e i).bytes
needed_tells (Ok m) (Err f) e = absurd (some_number f (sym (ap (λ (x : Needed). x.refusal) e)))
needed_tells (Err f) (Ok n) e = absurd (some_number f (ap (λ (x : Needed). x.refusal) e))
needed_tells (Err f) (Err g) e = ap Err (number-one (ap (λ (x : Needed). x.refusal) e))

pub dds_bytes-settled : Settled dds-bytes.Post the_answer
dds_bytes-settled _ _ _ r s _ _ p q = needed_tells r s (alike p q)

writes_settled : (w : Writing) {d e : List ℕ} {r s : Written} → Writes w d r → Writes w e s → ◌≡◌ {A = Written × List ℕ} (r, d) (s, e)
unfolding Writes
writes_settled (written n t x) p q = alike₂ p.0 q.0 p.1 q.1
writes_settled (refused t x) p q = alike₂ p.0 q.0 p.1 q.1

pub write_dds-settled : Settled {X = Written × List ℕ} write-dds.Post
    (λ a r (header, (tables, (bytes, (palettes, (dst, _))))). (r, dst.now))
write_dds-settled _ _ _ _ _ _ _ p q = writes_settled _ p q

pub crunch_dds_bytes-settled : Settled crunch-dds-bytes.Post the_answer
crunch_dds_bytes-settled _ _ _ _ _ _ _ p q = alike p q

pub crunch_write_dds_parts-settled : Settled {X = Written × List ℕ} crunch-write-dds-parts.Post
    (λ a r (header, (counts, (t₁, (t₂, (t₃, (t₄, (t₅, (bytes, (ce, (cs, (ae, (al, (dst, _))))))))))))). (r, dst.now))
crunch_write_dds_parts-settled _ _ _ _ _ _ _ p q = writes_settled _ p q
