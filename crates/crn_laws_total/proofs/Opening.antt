-- Every opening ends with an answer or with one of the refusals 1 to 9, and leaves the lent buffers as document 01 says.
use Prim.Native.Nat.{ℕ, ◌+◌, ◌*◌, ◌-◌, ◌≤◌}
use mathlib.Core.Bool.{Bool, true, false, false≢true}
use mathlib.Core.List.{List, [], ◌∷◌, ◌++◌}
use mathlib.Core.Path.{◌≡◌, refl, sym, ap, ◌∙◌}
use native.Mathlib.Omega.{arith}
use lib.ListN.{length, get_or, drop, length-append, length-drop, length-replicate, get_or-replicate}
use lib.Seq.{get_or-append-add, get_or-drop}
use lib.Dec.{leb}
use borrow.Author.Tests.{leb-true}
use Rattle.crn_format.specs.Choice.{pick, both}
use Rattle.crn_format.specs.Reading.{Reading, Step, got, refused, Place, start, run, from_bits}
use Rattle.crn_format.specs.Header.{header_of, within_limits, sizes_hold, signed}
use Rattle.crn_format.specs.Palettes.{color_endpoints, color_selectors, alpha_endpoints, alpha_selectors}
use Rattle.crn_format.specs.Opening.{Palettes, Lengths, Opening, opened, shut, present, of_plane, segments_stand, room_for, segment, zeros}
use Rattle.crn_format.specs.Opening.{zeroed, filled, onward, palette_in, sent_tables, tables_of, streams, after_look, opening}
use Rattle.crn_format.specs.declared.Part.{Part}
use Rattle.crn_format.specs.declared.Header.{Header}
use Rattle.crn_format.proofs.Choices.{both_hold}
use Rattle.crn_laws_total.specs.Refusals.{among, before_streams, in_streams, after_look_refusals}
use Rattle.crn_laws_total.specs.Leaves.{Zeroed, Beyond}
use Rattle.crn_laws_total.specs.Ends.{Open, Shut, OpeningEnds}
use Rattle.crn_laws_total.proofs.Numbers.{among_first, among_second, none_in_both}
use Rattle.crn_format.proofs.Refusing.{Refuses, Stops, bits-stop}
use Rattle.crn_format.proofs.OpeningReadings.{tables-refuse, color-endpoints, color-selectors, alpha-endpoints, alpha-selectors}
use Rattle.crn_format.proofs.Answers.{All, run-all}
use Rattle.crn_laws_total.proofs.Words.{Long, color-endpoints-long, color-selectors-long, alpha-endpoints-long, alpha-selectors-long}

-- ---- one buffer

zeros-zeroed : (b : List ℕ) → Zeroed b (zeros b)
zeros-zeroed b = record { long = length-replicate (length b) 0; zero = λ i h. get_or-replicate (length b) i 0 0 h }

filled-beyond : (n : ℕ) (ws b : List ℕ) → length ws ≡ n → n ≤ length b → Beyond n b (filled ws b)
filled-beyond n ws b e h =
    record {
      fits = h;
      long = omega (arith, length-append ws (drop (length ws) b), length-drop (length ws) b);
      same = λ i k.
          let at : i ≡ length ws + (i - length ws) = omega arith in
          ap (λ (j : ℕ). get_or (ws ++ drop (length ws) b) j 0) at ∙ get_or-append-add ws (drop (length ws) b) (i - length ws) 0
          ∙ get_or-drop (length ws) b (i - length ws) 0 ∙ ap (λ (j : ℕ). get_or b j 0) (sym at);
    }

-- ---- a refusal

module _ (lent : Palettes) (n : ℕ) where
  early : among n before_streams ≡ true → Shut lent lent n 0
  early e =
      record {
        number = among_first n before_streams in_streams e;
        untouched = λ _. (refl, refl);
        zeroed = λ f. absurd (none_in_both n before_streams in_streams refl e f);
      }

  late : (bit : ℕ) → among n in_streams ≡ true → Shut lent (zeroed lent) n bit
  unfolding zeroed
  late bit e =
      record {
        number = among_second n before_streams in_streams e;
        untouched = λ f. absurd (none_in_both n before_streams in_streams refl f e);
        zeroed = λ _. record {
          color_ends = zeros-zeroed lent.color_ends;
          color_sels = zeros-zeroed lent.color_sels;
          alpha_ends = zeros-zeroed lent.alpha_ends;
          alpha_sels = zeros-zeroed lent.alpha_sels;
        };
      }

-- ---- the streams

-- the refusals of a stream
abbrev ok : ℕ → Bool
ok n = among n in_streams

-- what holds of every refusal in a stream, and of what is opened in the end, holds of the streams
module _ (lent : Palettes) (P : Opening → Type 0) (stopped : (n bit : ℕ) → among n in_streams ≡ true → P (shut n bit (zeroed lent))) where
  on : {A : Type 0} (s : Step Place A) (k : A → Opening) → Stops ok s → ((a : A) (w : Place) → s ≡ got a w → P (k a))
      → P (onward lent s k)
  unfolding onward
  on (got a w) k h g = g a w refl
  on (refused n w) k h g = stopped n w.blamed h

  -- a palette of n words for its buffer: what is then left of the buffer
  palette : (file : List ℕ) (there : Bool) (p : Part) (reading : ℕ → Reading (List ℕ)) (n : ℕ) (b : List ℕ) (k : List ℕ → Opening)
      → Refuses ok (reading p.count) → All (Long n) (reading p.count) → (there ≡ true → n ≤ length b)
      → ((a : List ℕ) → (there ≡ true → Beyond n b a) → (there ≡ false → a ≡ b) → P (k a))
      → P (palette_in file lent there p reading b k)
  unfolding palette_in
  palette file true p reading n b k refuses long room g =
      on (run (from_bits (segment file p.offset p.size)) (reading p.count) start) _
      (bits-stop ok refl refl (segment file p.offset p.size) (reading p.count) refuses start)
      (λ ws w e. g (filled ws b) (λ _. filled-beyond n ws b (run-all (from_bits (segment file p.offset p.size)) (Long n) (reading p.count)
      long start e) (room refl))
      (λ f. absurd (false≢true (sym f))))
  palette file false p reading n b k refuses long room g = g b (λ f. absurd (false≢true f)) (λ _. refl)

-- what holds of both palettes of a plane that is present
plane_room : (ends : Part) (a b : Bool) → of_plane ends a b ≡ true → present ends ≡ true → (a ≡ true) × (b ≡ true)
plane_room ends a b e there = both_hold a b (sym (ap (λ (t : Bool). pick t (both a b) true) there) ∙ e)

-- the lent buffers are long enough, for each plane
module _ (h : Header) (lent : Palettes) (room : room_for h lent ≡ true) where
  planes-room : (of_plane h.color_endpoints (leb h.color_endpoints.count (length lent.color_ends))
      (leb h.color_selectors.count (length lent.color_sels)) ≡ true)
      × (of_plane h.alpha_endpoints (leb h.alpha_endpoints.count (length lent.alpha_ends))
      (leb (3 * h.alpha_selectors.count) (length lent.alpha_sels)) ≡ true)
  unfolding room_for
  planes-room = both_hold _ _ room

  color-room : present h.color_endpoints ≡ true
      → (leb h.color_endpoints.count (length lent.color_ends) ≡ true) × (leb h.color_selectors.count (length lent.color_sels) ≡ true)
  color-room there = plane_room h.color_endpoints _ _ planes-room.0 there

  alpha-room : present h.alpha_endpoints ≡ true
      → (leb h.alpha_endpoints.count (length lent.alpha_ends) ≡ true) × (leb (3 * h.alpha_selectors.count) (length lent.alpha_sels) ≡ true)
  alpha-room there = plane_room h.alpha_endpoints _ _ planes-room.1 there

module _ (file : List ℕ) (lent : Palettes) (h : Header) where
  -- what is left to do after the tables and so many palettes
  abbrev after-four : Lengths → List ℕ → List ℕ → List ℕ → List ℕ → Opening
  after-four t ce cs ae al = opened (record { header = h; tables = tables_of t })
      (record { color_ends = ce; color_sels = cs; alpha_ends = ae; alpha_sels = al })

  abbrev after-three : Lengths → List ℕ → List ℕ → List ℕ → Opening
  after-three t ce cs ae = palette_in file lent (present h.alpha_endpoints) h.alpha_selectors alpha_selectors lent.alpha_sels
      (after-four t ce cs ae)

  abbrev after_two : Lengths → List ℕ → List ℕ → Opening
  after_two t ce cs = palette_in file lent (present h.alpha_endpoints) h.alpha_endpoints alpha_endpoints lent.alpha_ends
      (after-three t ce cs)

  abbrev after_one : Lengths → List ℕ → Opening
  after_one t ce = palette_in file lent (present h.color_endpoints) h.color_selectors color_selectors lent.color_sels (after_two t ce)

  abbrev after-tables : Lengths → Opening
  after-tables t = palette_in file lent (present h.color_endpoints) h.color_endpoints color_endpoints lent.color_ends (after_one t)

  module _ (room : room_for h lent ≡ true) (P : Opening → Type 0)
      (stopped : (n bit : ℕ) → among n in_streams ≡ true → P (shut n bit (zeroed lent))) where
    palettes-through : (t : Lengths) → ((after : Palettes) → Open h lent after
        → P (opened (record { header = h; tables = tables_of t }) after)) → P (after-tables t)
    palettes-through t through =
        palette lent P stopped file (present h.color_endpoints) h.color_endpoints color_endpoints h.color_endpoints.count
        lent.color_ends (after_one t)
        (color-endpoints ok refl h.color_endpoints.count) (color-endpoints-long h.color_endpoints.count)
        (λ there. leb-true _ _ (color-room h lent room there).0)
        (λ ce ce-on ce-off.
        palette lent P stopped file (present h.color_endpoints) h.color_selectors color_selectors h.color_selectors.count
        lent.color_sels (after_two t ce)
        (color-selectors ok refl h.color_selectors.count refl) (color-selectors-long h.color_selectors.count)
        (λ there. leb-true _ _ (color-room h lent room there).1)
        (λ cs cs-on cs-off.
        palette lent P stopped file (present h.alpha_endpoints) h.alpha_endpoints alpha_endpoints h.alpha_endpoints.count
        lent.alpha_ends (after-three t ce cs)
        (alpha-endpoints ok refl h.alpha_endpoints.count) (alpha-endpoints-long h.alpha_endpoints.count)
        (λ there. leb-true _ _ (alpha-room h lent room there).0)
        (λ ae ae-on ae-off.
        palette lent P stopped file (present h.alpha_endpoints) h.alpha_selectors alpha_selectors
        (3 * h.alpha_selectors.count) lent.alpha_sels (after-four t ce cs ae)
        (alpha-selectors ok refl h.alpha_selectors.count refl) (alpha-selectors-long h.alpha_selectors.count)
        (λ there. leb-true _ _ (alpha-room h lent room there).1)
        (λ al al-on al-off. through (record { color_ends = ce; color_sels = cs; alpha_ends = ae; alpha_sels = al }) (record {
          color = record { first = ce-on; second = cs-on; unread = λ f. (ce-off f, cs-off f) };
          alpha = record { first = ae-on; second = al-on; unread = λ f. (ae-off f, al-off f) };
        })))))

    pub streams-through : ((t : Lengths) (w : Place) → run (from_bits (segment file h.tables_offset h.tables_size)) (sent_tables h)
        start ≡ got t w
        → (after : Palettes) → Open h lent after → P (opened (record { header = h; tables = tables_of t }) after)) → P (streams file lent h)
    unfolding streams
    streams-through through =
        on lent P stopped (run (from_bits (segment file h.tables_offset h.tables_size)) (sent_tables h) start) after-tables
        (bits-stop ok refl refl (segment file h.tables_offset h.tables_size) (sent_tables h) (tables-refuse ok refl h) start)
        (λ t w e. palettes-through t (through t w e))

-- ---- the whole

pub opening-ends : (file : List ℕ) (lent : Palettes) → OpeningEnds lent (opening file lent)
unfolding opening
opening-ends file lent =
    by (signed file) (within_limits h) (sizes_hold file h) (segments_stand file h) (room_for h lent) refl
  where
    h : Header
    h = header_of file

    by : (a b c d e : Bool) → room_for h lent ≡ e
        → OpeningEnds lent
        (pick a
        (pick b
        (pick c (pick d (pick e (streams file lent h) (shut 5 0 lent)) (shut 4 0 lent)) (shut 3 0 lent))
        (shut 2 0 lent))
        (shut 1 0 lent))
    by false b c d e is = early lent 1 refl
    by true false c d e is = early lent 2 refl
    by true true false d e is = early lent 3 refl
    by true true true false e is = early lent 4 refl
    by true true true true false is = early lent 5 refl
    by true true true true true is = streams-through file lent h is (OpeningEnds lent) (late lent) (λ t w e after o. o)

-- ---- after the look: what is opened has this header, and the look's own refusals, 1, 2 and 3, do not come any more

abbrev pub Late : Header → Opening → Type 0
Late h (opened r after) = r.header ≡ h
Late h (shut n bit after) = among n after_look_refusals ≡ true

pub after-look_late : (file : List ℕ) (lent : Palettes) (h : Header) → Late h (after_look file lent h)
after-look_late file lent h = by (segments_stand file h) (room_for h lent) refl
  where
    by : (d e : Bool) → room_for h lent ≡ e → Late h (pick d (pick e (streams file lent h) (shut 5 0 lent)) (shut 4 0 lent))
    by false e is = refl
    by true false is = refl
    by true true is =
        streams-through file lent h is (Late h) (λ n bit s. among_second n (4 ∷ 5 ∷ []) in_streams s) (λ t w e after o. refl)
