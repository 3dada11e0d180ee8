-- The entry crate's functions: the answer, the buffers, the tables, the budget and the destination are fixed.
use Prim.Native.Nat.{ℕ}
use mathlib.Core.Bool.{Bool, true, false}
use mathlib.Core.Path.{◌≡◌, refl, sym, ap}
use mathlib.Core.List.{List}
use native.Mathlib.Omega.{arith}
use Rattle.std.specs.Prelude.{Ok, Err}
use Rattle.std.specs.declared.result.Result.{Result}
use Rattle.crn_format.specs.Refusals.{number_of}
use Rattle.crn_format.specs.declared.Fault.{Fault}
use Rattle.crn_format.specs.declared.Record.{Record}
use Rattle.crn_format.specs.Opening.{Palettes, Opening, Lengths}
use Rattle.crn_format.specs.Loading.{agrees}
use Rattle.crn_format.specs.Unpacking.{Unpacking}
use Rattle.crn_format.specs.declared.Header.{Header}
use Rattle.crn_formats.specs.Lent.{lent_of}
use Rattle.crn_opening.specs.declared.opening.OpenedParts.{OpenedParts}
use Rattle.crn_opening.specs.Opens.{Opened, whole, opened_by, Opens, Loads}
use Rattle.crunch.proofs.load.Reads as load
use Rattle.crunch.proofs.«open».Reads as opening
use Rattle.crn_opening.proofs.load_into.Reads as load-into
use Rattle.crn_opening.proofs.open_into.Reads as open-into
use Rattle.crn_chunks.specs.Meaning.{Served}
use Rattle.crn_drawing.specs.Unpacks.{Drawn, answer_of, symbols_of, Unpacks}
use Rattle.crn_drawing.specs.Levels.{Tabled}
use Rattle.crn_drawing.proofs.draw_chunks.Reads as draw-chunks
use Rattle.crn_drawing.proofs.draw_level.Reads as draw-level
use Rattle.crn_level.proofs.unpack_level.Reads as unpack-level
use Rattle.crn_level.proofs.unpack_level_by.Reads as unpack-level-by
use Rattle.crn_level.proofs.unpack_made.Reads as unpack-made
use Rattle.crn_levels.proofs.unpack_levels.Reads as unpack-levels
use Rattle.crn_levels.specs.Several.{Ended, Gives}
use Rattle.crn_levels.specs.declared.Several.{Several}
use Rattle.crn_laws_results.specs.Settled.{Settled, SettledIf, alike, alike₂}
use Rattle.crn_format.proofs.Numbers.{number-one}
use Rattle.crn_laws_results.proofs.Numbers.{some_number, fault_tells}

-- an answer with the record whole, told by its numbers, tells the answer
whole_tells : (r s : Result Record Fault) → whole r ≡ whole s → r ≡ s
whole_tells (Ok f) (Ok g) h = λ i. Ok (h i).file
whole_tells (Ok f) (Err e) h = absurd (some_number e.refusal (sym (ap (λ (x : Opened). x.refusal) h)))
whole_tells (Err e) (Ok g) h = absurd (some_number e.refusal (ap (λ (x : Opened). x.refusal) h))
whole_tells (Err e) (Err f) h = ap Err (fault_tells e f (ap (λ (x : Opened). x.refusal) h) (ap (λ (x : Opened). x.at) h))

opens-settled : {o : Opening} {after₁ after₂ : Palettes} {r s : Result Record Fault} → Opens o after₁ (whole r) → Opens o after₂ (whole s)
    → ◌≡◌ {A = Result Record Fault × Palettes} (r, after₁) (s, after₂)
opens-settled {r = r} {s = s} p q = λ i. (whole_tells r s (alike p.answer q.answer) i, alike p.leaves q.leaves i)

pub open-settled : Settled {X = Result Record Fault × Palettes} opening.Post (λ a r (file, (ce, (cs, (ae, (al, _))))).
    (r, lent_of ce.now cs.now ae.now al.now))
open-settled _ _ _ _ _ _ _ p q = opens-settled p q

pub open_into-settled : Settled {X = Opened × Palettes} open-into.Post
    (λ a r (file, (ce, (cs, (ae, (al, (t₁, (t₂, (t₃, (t₄, (t₅, _)))))))))).
    (opened_by r t₁.now t₂.now t₃.now t₄.now t₅.now, lent_of ce.now cs.now ae.now al.now))
open_into-settled _ _ _ _ _ _ _ p q = alike₂ p.answer q.answer p.leaves q.leaves

-- ---- a load

pub load-settled : Settled {X = Result Record Fault × Palettes} load.Post
    (λ a r (header, (file, (ce, (cs, (ae, (al, _)))))). (r, lent_of ce.now cs.now ae.now al.now))
load-settled _ _ _ _ _ _ _ p q = opens-settled p q

abbrev told_by : Result OpenedParts Fault → Lengths → Opened
told_by r t = opened_by r t.chunk t.color_ends t.color_sels t.alpha_ends t.alpha_sels

-- also where record and file disagree, and the arrays are as they had been
loads-settled : {h : Header} {file : List ℕ} {lent after₁ after₂ : Palettes} {had left₁ left₂ : Lengths} {r s : Result OpenedParts Fault}
    → Loads h file lent after₁ had left₁ r → Loads h file lent after₂ had left₂ s
    → ◌≡◌ {A = Opened × Palettes} (told_by r left₁, after₁) (told_by s left₂, after₂)
loads-settled {h} {file} {lent} {after₁} {after₂} {had} {left₁} {left₂} {r} {s} p q =
    λ i. (by (agrees h file) refl i, alike p.leaves q.leaves i)
  where
    by : (b : Bool) → agrees h file ≡ b → told_by r left₁ ≡ told_by s left₂
    by true e = alike (p.alike e) (q.alike e)
    by false e = rw ((p.apart e).0, (p.apart e).1, (q.apart e).0, (q.apart e).1)

pub load_into-settled : Settled {X = Opened × Palettes} load-into.Post
    (λ a r (header, (file, (ce, (cs, (ae, (al, (t₁, (t₂, (t₃, (t₄, (t₅, _))))))))))).
    (opened_by r t₁.now t₂.now t₃.now t₄.now t₅.now, lent_of ce.now cs.now ae.now al.now))
load_into-settled _ _ _ _ _ _ _ p q = loads-settled p q

-- ---- a level

-- an answer and a destination tell each other apart
answers-apart : (r s : Drawn) (d e : List ℕ) → answer_of r d ≡ answer_of s e → (r ≡ s) × (d ≡ e)
unfolding answer_of
answers-apart (Ok u) (Ok v) d e h =
    let a : u.symbols ≡ v.symbols = cc in
    let b : u.cutouts ≡ v.cutouts = cc in
    let z : d ≡ e = cc in
    ((λ i. Ok (record { symbols = a i; cutouts = b i })), z)
answers-apart (Ok u) (Err y) d e h = let z : ◌≡◌ {A = ℕ} 0 1 = cc in absurd (omega arith)
answers-apart (Err x) (Ok v) d e h = let z : ◌≡◌ {A = ℕ} 0 1 = cc in absurd (omega arith)
answers-apart (Err x) (Err y) d e h =
    let n : number_of x.refusal ≡ number_of y.refusal = cc in
    let a : x.symbols ≡ y.symbols = cc in
    let b : x.at ≡ y.at = cc in
    let z : d ≡ e = cc in
    ((λ i. Err (record { refusal = number-one n i; symbols = a i; at = b i })), z)

pub unpacks-settled : {u : Unpacking} {budget left₁ left₂ : ℕ} {d e : List ℕ} {r s : Drawn} → Unpacks u budget left₁ d r → Unpacks u
    budget left₂ e s
    → ◌≡◌ {A = Drawn × (ℕ × List ℕ)} (r, (left₁, d)) (s, (left₂, e))
unpacks-settled {left₁ = m} {left₂ = n} {d = d} {e = e} {r = r} {s = s} p q =
    let same = answers-apart r s d e (alike p.answer q.answer) in
    let spent : symbols_of r ≡ symbols_of s = ap symbols_of same.0 in
    let left : m ≡ n = omega (arith, p.spent, q.spent) in
    λ i. (same.0 i, (left i, same.1 i))

-- by tables that decode some codes
pub draw_chunks-settled : SettledIf {X = Drawn × (ℕ × List ℕ)}
    (λ (format, (level, _)) r. Served level.now.supply.planes level.now.supply.lookup.now level.now.supply.sorted.now) draw-chunks.Post
    (λ a r (format, (level, (budget, (dst, _)))). (r, (budget.now, dst.now)))
draw_chunks-settled _ _ _ _ _ _ _ some _ p q = unpacks-settled (p some.codes some.coded) (q some.codes some.coded)

pub draw_level-settled : Settled {X = Drawn × (ℕ × List ℕ)} draw-level.Post
    (λ a r (header, (tables, (seg, (palettes, (grid, (budget, (dst, _))))))). (r, (budget.now, dst.now)))
draw_level-settled _ _ _ _ _ _ _ p q = unpacks-settled p q

pub unpack_level-settled : Settled {X = Drawn × (ℕ × List ℕ)} unpack-level.Post
    (λ a r (file, (bytes, (palettes, (level, (pitch, (distance, (budget, (dst, _)))))))). (r, (budget.now, dst.now)))
unpack_level-settled _ _ _ _ _ _ _ p q = unpacks-settled p q

pub unpack_level_by-settled : Settled {X = Drawn × (ℕ × List ℕ)} unpack-level-by.Post
    (λ a r (header, (tables, (bytes, (palettes, (level, (pitch, (distance, (budget, (dst, _))))))))). (r, (budget.now, dst.now)))
unpack_level_by-settled _ _ _ _ _ _ _ p q = unpacks-settled p q

-- by decoder tables of some record
pub unpack_made-settled : SettledIf {X = Drawn × (ℕ × List ℕ)}
    (λ (header, (made, _)) r. Tabled header made.now.sizes made.now.lookup.now made.now.sorted.now) unpack-made.Post
    (λ a r (header, (made, (bytes, (palettes, (level, (pitch, (distance, (budget, (dst, _))))))))). (r, (budget.now, dst.now)))
unpack_made-settled _ _ _ _ _ _ _ some _ p q = unpacks-settled (p some.of some.made) (q some.of some.made)

-- ---- several levels

pub gives-settled : {w : Ended} {left₁ left₂ : ℕ} {d e : List ℕ} {r s : Several} → Gives w left₁ d r → Gives w left₂ e s
    → ◌≡◌ {A = Several × (ℕ × List ℕ)} (r, (left₁, d)) (s, (left₂, e))
gives-settled p q = λ i. (alike p.answer q.answer i, alike₂ p.budget q.budget p.leaves q.leaves i)

pub unpack_levels-settled : Settled {X = Several × (ℕ × List ℕ)} unpack-levels.Post
    (λ a r (header, (tables, (bytes, (palettes, (first, (budget, (dst, _))))))). (r, (budget.now, dst.now)))
unpack_levels-settled _ _ _ _ _ _ _ p q = gives-settled p q
