-- The lengths that have come so far, and a run more.
use Prim.Native.Nat.{ℕ, zero, suc, ◌+◌, ◌-◌, ◌*◌, ◌<◌, ◌≤◌}
use mathlib.Core.Bool.{true, false}
use mathlib.Core.List.{List, [], ◌++◌}
use mathlib.Core.Path.{◌≡◌, refl, sym, ap, ◌∙◌}
use native.Mathlib.Nat.{suc-mul}
use native.Mathlib.Omega.{arith}
use lib.ListN.{length, get_or, take, drop, replicate, get_or-replicate, get_or-append}
use lib.Dec.{leb, ltb}
use borrow.Author.Tests.{le-leb, lt-leb, lt-ltb}
use lib.Seq.{paste, length-take-le, get_or-append-add}
use Rattle.crn_format.specs.Limits.{max_symbols, max_length}
use Rattle.crn_format.specs.Choice.{both}
use Rattle.crn_format.specs.Codes.{room as room_of, all_fit, is_code}
use Rattle.crn_format.specs.Reading.{got, refused, run, from_bits, spot}
use Rattle.crn_format.specs.Tables.{lengths_from}
use Rattle.crn_format.proofs.Steps.{go_on, stop}
use Rattle.crn_symbol_codec.specs.Cursors.{place, Holds}
use Rattle.crn_symbol_codec.specs.Decoders.{Decodes}
use Rattle.crn_symbol_codec.specs.declared.Cursor.{Cursor}
use Rattle.crn_static_huffman_data_model.specs.Building.{share_of}
use Rattle.crn_static_huffman_data_model.proofs.Room.{fit_more, room-more, by_room}
use Rattle.std.specs.Prelude.{Ok, Err}
use Rattle.crn_format.specs.declared.Fault.{Fault}
use Rattle.crn_symbol_codec.specs.Telling.{fault}
use Rattle.crn_code_tables.specs.Parts.{Draws, Runs, all_runs}
use Rattle.crn_code_tables.proofs.Putting.{run-front, run-rest, run_length, zeros-front, zeros-rest}
use Rattle.crn_code_tables.proofs.Receiving.{checked_good, checked_bad}
use Rattle.crn_code_tables.proofs.Running.{turn-refused, turn-long, turn_more}

-- ---- the room of lengths and a run after them

module _ (ls more : List ℕ) where
  room-front : (k : ℕ) → k ≤ length ls → room_of (ls ++ more) k ≡ room_of ls k
  unfolding room_of
  room-front zero h = refl
  room-front (suc k) h = rw (get_or-append ls more 0 k (omega arith), room-front k (omega arith))

  fit_front : (k : ℕ) → k ≤ length ls → all_fit (ls ++ more) k ≡ all_fit ls k
  unfolding all_fit
  fit_front zero h = refl
  fit_front (suc k) h = rw (get_or-append ls more 0 k (omega arith), fit_front k (omega arith))

module _ (ls : List ℕ) (n v : ℕ) where
  run_at : (k : ℕ) → k < n → get_or (ls ++ replicate n v) (length ls + k) 0 ≡ v
  run_at k h = get_or-append-add ls (replicate n v) k 0 ∙ get_or-replicate n k v 0 h

  room-run : (k : ℕ) → k ≤ n → room_of (ls ++ replicate n v) (length ls + k) ≡ room_of ls (length ls) + k * share_of v
  room-run zero h =
      let z : length ls + 0 ≡ length ls = omega arith in
      rw z (omega (arith, room-front ls (replicate n v) (length ls) (omega arith)))
  room-run (suc k) h =
      let s : length ls + suc k ≡ length ls + k + 1 = omega arith in
      rw s
      (room-more (ls ++ replicate n v) (length ls + k)
      ∙ rw (run_at k (omega arith)) (omega (arith, room-run k (omega arith), suc-mul k (share_of v))))

  fit_run : v ≤ max_length → all_fit ls (length ls) ≡ true → (k : ℕ) → k ≤ n → all_fit (ls ++ replicate n v) (length ls + k) ≡ true
  fit_run small e zero h =
      let z : length ls + 0 ≡ length ls = omega arith in
      rw z (fit_front ls (replicate n v) (length ls) (omega arith) ∙ e)
  fit_run small e (suc k) h =
      let s : length ls + suc k ≡ length ls + k + 1 = omega arith in
      rw s (fit_more (ls ++ replicate n v) (length ls + k) (omega (arith, run_at k (omega arith))) (fit_run small e k (omega arith)))

-- ---- the state of the loop

-- at the cursor `at`, with `done` of the `count` lengths that are sent from c on, whose codes take the room `sum`; `turns` are left, and
-- a refusal now would name `blamed`
pub record State (lookup sorted seg : List ℕ) (c : Cursor) (count : ℕ) (lengths : List ℕ) (done last sum : ℕ) (at : Cursor) : Type 0 where
  pub long : length lengths ≡ max_symbols
  pub within : done ≤ count
  pub rest : drop done lengths ≡ replicate (max_symbols - done) 0
  pub holds : Holds seg at
  pub short : last ≤ max_length
  pub fits : all_fit (take done lengths) done ≡ true
  pub sums : sum ≡ room_of (take done lengths) done
  pub few : sum ≤ 65535 * done
  pub turns : ℕ
  pub enough : count ≤ done + turns
  pub blamed : ℕ
  pub same : (cl : List ℕ) → Decodes cl lookup sorted → run (from_bits seg) (lengths_from cl count turns last (take done lengths))
      (spot (place at) blamed)
      ≡ run (from_bits seg) (lengths_from cl count count 0 []) (spot (place c) (place c))

module _
    {lookup sorted seg : List ℕ} {c : Cursor} {count : ℕ} {lengths : List ℕ} {done last sum : ℕ} {at : Cursor}
    (s : State lookup sorted seg c count lengths done last sum at) (most : count ≤ max_symbols) (more : done < count)
  where
    front_long : length (take done lengths) ≡ done
    front_long = length-take-le done lengths (omega (arith, s.long))

    -- a run is refused
    stopped : {e : Fault} → ((cl : List ℕ) → Decodes cl lookup sorted
        → run (from_bits seg) (lengths_from cl count s.turns last (take done lengths)) (spot (place at) s.blamed) ≡ fault e)
        → Runs lookup sorted seg c count (Err e) lengths
    stopped f = record { long = s.long; blamed = 0; same = λ cl d. sym (s.same cl d) ∙ f cl d; goes = tt }

    pub run-refused : {e : Fault} → Draws lookup sorted seg last at (Err e) → Runs lookup sorted seg c count (Err e) lengths
    run-refused r =
        stopped (λ cl d. turn-refused seg cl last (place at) count s.turns (take done lengths) s.blamed (omega (arith, front_long))
        (omega (arith, front_long, s.enough)) (r.same cl d))

    module _ {n v : ℕ} {d : Cursor} (r : Draws lookup sorted seg last at (Ok ((v, n), d))) where
      -- or goes past the count
      pub run_long : {e : Fault} → fault {A = List ℕ} e ≡ refused 6 (spot (place at) (place at)) → count - done < n
          → Runs lookup sorted seg c count (Err e) lengths
      run_long f l =
          stopped
          (λ cl h. turn-long seg cl last (place at) count s.turns (take done lengths) s.blamed (omega (arith, front_long))
          (omega (arith, front_long, s.enough)) (r.same cl h) (omega (arith, front_long)) ∙ sym f)

      -- or comes after the others
      grown : (after : List ℕ) (sum' : ℕ) → done + n ≤ count → length after ≡ max_symbols
          → take (done + n) after ≡ take done lengths ++ replicate n v → drop (done + n) after ≡ replicate (max_symbols - (done + n)) 0
          → sum' ≡ sum + n * share_of v → sum' ≤ 65535 * (done + n)
          → State lookup sorted seg c count after (done + n) v sum' d
      grown after sum' fit long front rest is few =
          let some = r.goes.1 in
          let small = r.goes.0 in
          record {
            long = long;
            within = fit;
            rest = rest;
            holds = r.goes.2;
            short = small;
            fits = rw front (rw front_long at (fit_run (take done lengths) n v small (rw front_long s.fits) n (omega arith)));
            sums = rw front (is ∙ omega (arith, s.sums, rw front_long at (room-run (take done lengths) n v n (omega arith))));
            few = few;
            turns = s.turns - 1;
            enough = omega (arith, s.enough);
            blamed = place at;
            same = λ cl h.
                ap (λ (ls : List ℕ). run (from_bits seg) (lengths_from cl count (s.turns - 1) v ls) (spot (place d) (place at))) front
                ∙ sym (turn_more seg cl last (place at) count s.turns (take done lengths) s.blamed (omega (arith, front_long))
                (omega (arith, front_long, s.enough)) (r.same cl h) (omega (arith, front_long)))
                ∙ s.same cl h;
          }

      module _ {room : ℕ} (fit : n ≤ count - done) (is : room ≡ n * share_of v) (few : room ≤ 65535 * n) where
        -- zeros stand there already
        pub grown_zeros : v ≡ 0 → State lookup sorted seg c count lengths (done + n) v (sum + room) d
        grown_zeros z =
            grown lengths (sum + room) (omega arith) s.long
            (rw z (zeros-front lengths done n (max_symbols - done) (omega arith) s.rest))
            (zeros-rest lengths done n max_symbols (omega arith) s.rest)
            (ap (λ (x : ℕ). sum + x) is) (omega (arith, s.few))

        -- others are put there
        pub grown_put : {after : List ℕ} → after ≡ paste lengths done (replicate n v) n
            → State lookup sorted seg c count after (done + n) v (sum + room) d
        grown_put {after} put =
            let within : done + n ≤ length lengths = omega (arith, s.long) in
            grown after (sum + room) (omega arith) (ap length put ∙ run_length lengths done n v within ∙ s.long)
            (ap (take (done + n)) put ∙ run-front lengths done n v within)
            (ap (drop (done + n)) put ∙ run-rest lengths done n v within max_symbols (omega arith) s.rest)
            (ap (λ (x : ℕ). sum + x) is) (omega (arith, s.few))

-- ---- whether they make a code

module _
    {lookup sorted seg : List ℕ} {c : Cursor} {count : ℕ} {lent : List ℕ}
  where
    pub all-refused : {e : Fault} → Runs lookup sorted seg c count (Err e) lent → (cl : List ℕ) → Decodes cl lookup sorted
        → run (from_bits seg) (all_runs cl count) (spot (place c) (place c)) ≡ fault e
    all-refused ran cl d = stop _ _ _ _ (ran.same cl d)

    module _ {room : ℕ} {at : Cursor} (ran : Runs lookup sorted seg c count (Ok (room, at)) lent) (most : count ≤ max_symbols) where
      code_by : is_code (take count lent) ≡ both (leb room 65536) (ltb 0 room)
      code_by =
          let l = length-take-le count lent (omega (arith, ran.long)) in
          by_room (take count lent) (rw l ran.goes.fits) ∙ ap (λ (x : ℕ). both (leb x 65536) (ltb 0 x))
          (ap (room_of (take count lent)) l ∙ sym ran.goes.is)

      all_bad : is_code (take count lent) ≡ false → (cl : List ℕ) → Decodes cl lookup sorted
          → run (from_bits seg) (all_runs cl count) (spot (place c) (place c)) ≡ refused 6 (spot (place at) (place at))
      all_bad e cl d = go_on _ _ _ _ (ran.same cl d) ∙ checked_bad _ _ _ _ e

      pub all_none : room ≡ 0 → (cl : List ℕ) → Decodes cl lookup sorted
          → run (from_bits seg) (all_runs cl count) (spot (place c) (place c)) ≡ refused 6 (spot (place at) (place at))
      all_none n = all_bad (code_by ∙ rw n refl)

      pub all_large : 65536 < room → (cl : List ℕ) → Decodes cl lookup sorted
          → run (from_bits seg) (all_runs cl count) (spot (place c) (place c)) ≡ refused 6 (spot (place at) (place at))
      all_large h = all_bad (code_by ∙ simp (lt-leb _ _ h))

      pub all_good : (room ≡ 0 → ⊥) → room ≤ 65536 → (cl : List ℕ) → Decodes cl lookup sorted
          → run (from_bits seg) (all_runs cl count) (spot (place c) (place c)) ≡ got (take count lent) (spot (place at) (place at))
      all_good n h cl d =
          go_on _ _ _ _ (ran.same cl d) ∙ checked_good _ _ _ _ (code_by ∙ simp (le-leb _ _ h, lt-ltb 0 room (omega arith)))
