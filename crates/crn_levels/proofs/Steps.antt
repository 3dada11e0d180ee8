-- One level more: from how far it has come to how far it comes, or to its refusal.
use Rattle.std.specs.Prelude.{Ok, Err}
use Prim.Native.Nat.{ℕ, suc, ◌+◌, ◌-◌, ◌≤◌, ◌<◌}
use mathlib.Core.Path.{◌≡◌, refl, sym, ap, ◌∙◌}
use mathlib.Core.Bool.{Bool, true, false}
use mathlib.Core.List.{List, [], ◌++◌, append-nil}
use native.Mathlib.Omega.{arith}
use lib.ListN.{length, take, drop, length-drop}
use lib.Seq.{take_all, drop-length}
use borrow.Author.Tests.{leb-true, le-ltb}
use borrow.Rule.Slice.PartMut.{put_mid}
use Rattle.crn_format.specs.Header.{kind_of, has_color, has_alpha, within_limits}
use Rattle.crn_format.specs.Opening.{Palettes}
use Rattle.crn_format.specs.Unpacking.{Unpacking, unpacked, declined, tables_hold, grid_of, reach, unpacking}
use Rattle.crn_format.specs.Refusals.{number_of}
use Rattle.crn_format.specs.declared.Header.{Header}
use Rattle.crn_format.specs.declared.Kind.{Kind}
use Rattle.crn_format.specs.declared.Refusal.{Refusal}
use Rattle.crn_format.specs.declared.Refusal.TheVariants.{BeyondLimits, NoCode, NoLevel}
use Rattle.crn_format.specs.declared.Record.{Record}
use Rattle.crn_format.specs.declared.Tables.{Tables}
use Rattle.crn_format.specs.declared.Grid.{Grid}
use Rattle.crn_format.proofs.Passing.{accepted-passed}
use Rattle.crn_decoders.specs.Tables.{Able, CodedTo, codes_of, tables_in}
use Rattle.crn_decoders.specs.declared.decoders.Sizes.{Sizes}
use Rattle.crn_decoders.proofs.Made.{able-kept}
use Rattle.crn_drawing.specs.Unpacks.{answer_of, Unpacks}
use Rattle.crn_drawing.specs.Levels.{record_with, Made}
use Rattle.crn_drawing.proofs.ByRecord.{ready_by}
use Rattle.crn_drawing.specs.declared.Unpacked.{Unpacked}
use Rattle.crn_drawing.specs.declared.Refused.{Refused}
use Rattle.crn_sizes.specs.Sizes.{level_sizes, close_sizes}
use Rattle.crn_sizes.specs.declared.LevelSizes.{LevelSizes}
use Rattle.crn_sizes.proofs.Counts.{most_cutouts, cutouts-few}
use Rattle.crn_sizes.proofs.Enough.{sizes_so, bytes_needed}
use Rattle.crn_levels.specs.declared.Several.{Several}
use Rattle.crn_levels.specs.Several.{Far, Ended, begun, further, onward, several_from, several_of, Gives}
use Rattle.crn_levels.specs.Answers.{stopped_by, none_by}

-- ---- a level that went through

needed : (h : Header) (n : ℕ) → (close_sizes h n).bytes ≤ reach (grid_of h n (close_sizes h n).pitch (close_sizes h n).distance)
unfolding grid_of
needed h n = bytes_needed _ _ _ _

module _ (r : Record) (file : List ℕ) (p : Palettes) (n budget : ℕ) (dst : List ℕ) {z : LevelSizes} (is : z ≡ level_sizes r.header n) where
  abbrev g : Grid
  g = grid_of r.header n z.pitch z.distance

  -- its bytes are there, and its cut-outs few
  pub through : (s c : ℕ) (e : List ℕ) → unpacking r file p n z.pitch z.distance budget dst ≡ unpacked s c e → (z.bytes ≤ length dst) ×
      (c ≤ most_cutouts)
  unfolding grid_of
  through s c e h =
      let a = accepted-passed r file p n z.pitch z.distance budget dst h in
      let room : reach g ≤ length dst = leb-true _ _ a.room in
      let so : z ≡ close_sizes r.header n = is ∙ sizes_so r.header n a.limits a.number in
      let all : z.bytes ≤ reach g = rw so (needed r.header n) in (
        omega arith,
        cutouts-few r file p n z.pitch z.distance budget dst s c e h,
      )

  pub went : {left : ℕ} {u : Unpacked} {e : List ℕ} → Unpacks (unpacking r file p n z.pitch z.distance budget dst) budget left e (Ok u)
      → (z.bytes ≤ length dst) × (u.cutouts ≤ most_cutouts)
  unfolding answer_of
  went {u = u} {e = e} o = through u.symbols u.cutouts e (sym o.answer)

-- ---- the definition's step

-- how far it has come, by the code's variables: of a budget of which all were there
abbrev pub far : ℕ → ℕ → ℕ → ℕ → ℕ → ℕ → Far
far first level from all left cutouts =
    record { level = level; from = from; left = left; levels = level - first; symbols = all - left; cutouts = cutouts }

pub at_first : (first all : ℕ) → far first first 0 all all 0 ≡ begun first all
at_first first all =
    let e : first - first ≡ 0 = omega arith in
    let d : all - all ≡ 0 = omega arith in
    λ i. record { level = first; from = 0; left = all; levels = e i; symbols = d i; cutouts = 0 }

pub moved : (first level from all cutouts bytes s c : ℕ) {left left' : ℕ} → first ≤ level → left ≤ all → left' + s ≡ left
    → further (far first level from all left cutouts) bytes s c ≡ far first (level + 1) (from + bytes) all left' (cutouts + c)
moved first level from all cutouts bytes s c {left} {left'} h few e =
    let a : left - s ≡ left' = omega arith in
    let b : level - first + 1 ≡ level + 1 - first = omega arith in
    let d : all - left + s ≡ all - left' = omega arith in
    λ i. record { level = level + 1; from = from + bytes; left = a i; levels = b i; symbols = d i; cutouts = cutouts + c }

-- the rest of the destination, lent and put back
pub rest-whole : (n : ℕ) (xs : List ℕ) → take (length xs - n) (drop n xs) ≡ drop n xs
rest-whole n xs = take_all (length xs - n) (drop n xs) (omega (arith, length-drop n xs))

pub put_whole : (n : ℕ) (xs ys : List ℕ) → put_mid n (length xs - n) xs ys ≡ take n xs ++ ys
put_whole n xs ys =
    let none : drop (length xs - n) (drop n xs) ≡ [] = rw (sym (length-drop n xs)) (drop-length (drop n xs)) in
    rw (none, append-nil ys)

module _ (r : Record) (file : List ℕ) (p : Palettes) (f : Far) (dst : List ℕ) (n : ℕ) {m : ℕ} (more : m ≡ suc n) {z : LevelSizes}
    (is : z ≡ level_sizes r.header f.level) {rest : List ℕ} (last : rest ≡ drop f.from dst) where
  abbrev answer : Unpacking
  answer = unpacking r file p f.level z.pitch z.distance f.left rest

  stepped : {u : Unpacking} → u ≡ answer → several_from m r file p f dst ≡ onward f z.bytes dst (several_from n r file p) u
  unfolding several_from
  stepped e = rw (more, e, is, last)

  pub on : {left : ℕ} {u : Unpacked} {e after : List ℕ} {f' : Far} → further f z.bytes u.symbols u.cutouts ≡ f'
      → after ≡ take f.from dst ++ e → Unpacks answer f.left left e (Ok u)
      → several_from m r file p f dst ≡ several_from n r file p f' after
  unfolding onward answer_of
  on next put o = rw (sym next, put) (stepped o.answer)

  pub off : {all left : ℕ} {x : Refused} {e after : List ℕ} → f.symbols + f.left ≡ all → after ≡ take f.from dst ++ e
      → Unpacks answer f.left left e (Err x)
      → Gives (several_from m r file p f dst) left after (stopped_by x f.levels (all - left) f.cutouts)
  unfolding onward answer_of
  off {all} {left} {x} {e} {after} whole put o =
      let drawn : all - left ≡ f.symbols + x.symbols = omega (arith, o.spent) in
      rw (stepped o.answer) (record {
        answer = λ i. stopped_by x f.levels (drawn i) f.cutouts;
        budget = omega (arith, o.spent);
        leaves = put;
      })

-- an end, of the definition from how far it has come and so from the start
pub from_start : {x y : Ended} {left : ℕ} {after : List ℕ} {a b : Several} → x ≡ y → a ≡ b → Gives x left after b → Gives y left after a
from_start e i g =
    record {
      answer = i ∙ g.answer ∙ ap (λ (w : Ended). w.answer) e;
      budget = g.budget ∙ ap (λ (w : Ended). w.left) e;
      leaves = g.leaves ∙
          ap (λ (w : Ended). w.after) e;
    }

pub all-through : (r : Record) (file : List ℕ) (p : Palettes) (f : Far) (dst : List ℕ) {n : ℕ} → n ≡ 0
    → Gives (several_from n r file p f dst) f.left dst (record {
      refusal = 0;
      at = 0;
      levels = f.levels;
      symbols = f.symbols;
      cutouts =
          f.cutouts;
    })
unfolding several_from
all-through r file p f dst e = rw e (record { answer = refl; budget = refl; leaves = refl })

-- ---- the tables that were made

-- two arrays that have kept their lengths hold the decoder tables of a lent record
pub made-lent : (h : Header) (t : Tables) {s : Sizes} {m n : ℕ} {lookup sorted : List ℕ} {kind : Kind} {color alpha : Bool}
    → within_limits h ≡ true → tables_hold t ≡ true → Able s m n → length lookup ≡ m → length sorted ≡ n
    → kind ≡ kind_of h.format → color ≡ has_color kind → alpha ≡ has_alpha kind
    → CodedTo (codes_of alpha t) (tables_in color alpha) s lookup sorted → Made (record_with h t) s lookup sorted
made-lent h t within holds able e f is is-color is-alpha coded =
    record {
      within = within;
      tables = holds;
      able = able-kept able e f;
      coded = ready_by (record_with h t) (is-color ∙ ap has_color is) (is-alpha ∙ ap has_alpha is) refl coded;
    }

-- ---- the first level is refused before the tables are made

module _ (r : Record) (file : List ℕ) (p : Palettes) (first budget : ℕ) (dst : List ℕ) where
  abbrev firstly : Unpacking
  firstly = unpacking r file p first (level_sizes r.header first).pitch (level_sizes r.header first).distance budget dst

  none-at : (k : Refusal) → firstly ≡ declined (number_of k) 0 0 dst → {a : Several} → a ≡ none_by (number_of k)
      → Gives (several_of r file p first budget dst) budget dst a
  unfolding answer_of
  none-at k e i =
      let z : 0 ≡ budget - budget = omega arith in
      from_start refl (i ∙ ap (λ (s : ℕ). stopped_by (record { refusal = k; symbols = 0; at = 0 }) 0 s 0) z)
      (off r file p (begun first budget) dst (r.header.levels - suc first) refl refl refl (omega arith) refl
      (record { answer = sym e; spent = omega arith }))

  pub none_2 : within_limits r.header ≡ false → {a : Several} → a ≡ none_by 2 → Gives (several_of r file p first budget dst) budget dst a
  none_2 e = none-at BeyondLimits (unfold unpacking in rw e)

  pub none_6 : within_limits r.header ≡ true → tables_hold r.tables ≡ false → {a : Several} → a ≡ none_by 6 → Gives
      (several_of r file p first budget dst) budget dst a
  none_6 w e = none-at NoCode (unfold unpacking in rw (w, e))

  pub none_10 : within_limits r.header ≡ true → tables_hold r.tables ≡ true → r.header.levels ≤ first → {a : Several} → a ≡ none_by 10
      → Gives (several_of r file p first budget dst) budget dst a
  none_10 w h e = none-at NoLevel (unfold unpacking in rw (w, h, le-ltb _ _ e))

  -- or it is there
  pub some : first < r.header.levels → {left : ℕ} {after : List ℕ} {a : Several} → Gives
      (several_from (r.header.levels - first) r file p (begun first budget) dst) left after a
      → Gives (several_of r file p first budget dst) left after a
  some h g =
      let e : r.header.levels - first ≡ suc (r.header.levels - suc first) = omega arith in
      from_start (ap (λ (n : ℕ). several_from n r file p (begun first budget) dst) e) refl g
