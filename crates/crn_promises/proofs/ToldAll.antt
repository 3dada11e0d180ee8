-- The same of all levels in one call: with the sums of the bytes and of the symbols that are told for them.
use Prim.Native.Nat.{ℕ, zero, suc, ◌+◌, ◌-◌, ◌≤◌}
use mathlib.Core.Bool.{true}
use mathlib.Core.Logic.{◌⊎◌, inl, inr}
use mathlib.Core.List.{List, ◌++◌}
use mathlib.Core.Path.{◌≡◌, refl, sym, ap, subst, ◌∙◌}
use native.Mathlib.Omega.{arith}
use native.Mathlib.Nat.{add-zero}
use lib.ListN.{length, take, drop, length-append, length-drop}
use lib.Seq.{length-take-le}
use Rattle.crn_format.specs.Opening.{Palettes}
use Rattle.crn_format.specs.Unpacking.{Unpacking, unpacked, declined, unpacking}
use Rattle.crn_format.specs.declared.Header.{Header}
use Rattle.crn_format.specs.declared.Record.{Record}
use Rattle.crn_sizes.specs.Sizes.{level_sizes}
use Rattle.crn_sizes.specs.declared.LevelSizes.{LevelSizes}
use Rattle.crn_levels.specs.Several.{Far, begun, further, onward, several_from}
use Rattle.crn_laws.specs.Levels.{Given, unpacking_in, Passes, symbols_of, allowed}
use Rattle.crn_laws.proofs.Theorems.{told-allowed, exact_acceptance, script-allowed, blocks_by_script}
use Rattle.crn_laws.proofs.Ending.{accepted-passes}
use Rattle.crn_laws_total.specs.Refusals.{among}
use Rattle.crn_laws_total.specs.Ends.{LevelEnds, bytes_of, sum_of}
use Rattle.crn_laws_total.proofs.Level.{level-ends}
use Rattle.crn_promises.specs.Calls.{LevelsCall, given_by}
use Rattle.crn_promises.specs.Promises.{LevelsSame, Ready, left_to_refuse, LevelsTold}
use Rattle.crn_promises.proofs.Told.{Told, told-enough}

-- the symbols that are told for k levels from n on, one after another
abbrev symbols_for : Header → ℕ → ℕ → ℕ
symbols_for h n zero = 0
symbols_for h n (suc k) = (level_sizes h n).symbols + symbols_for h (n + 1) k

as_sum : (h : Header) (n k : ℕ) → symbols_for h n k ≡ sum_of k (λ i. (level_sizes h (n + i)).symbols)
as_sum h n zero = refl
as_sum h n (suc k) =
    let first : (level_sizes h (n + 0)).symbols ≡ (level_sizes h n).symbols = ap (λ (m : ℕ). (level_sizes h m).symbols) (add-zero n) in
    let next : (i : ℕ) → n + 1 + i ≡ n + suc i = λ i. omega arith in
    let shifted : sum_of k (λ i. (level_sizes h (n + 1 + i)).symbols) ≡ sum_of k (λ i. (level_sizes h (n + suc i)).symbols) =
    λ j. sum_of k (λ i. (level_sizes h (next i j)).symbols) in
    omega (arith, first, as_sum h (n + 1) k, shifted)

abbrev Left : ℕ → Type 0
Left refusal = (refusal ≡ 0) ⊎ (among refusal left_to_refuse ≡ true)

-- a level that is accepted draws no more than is told for it
few-drawn : (v : Given) (budget : ℕ) {s c : ℕ} {e : List ℕ} → (level_sizes v.opened.header v.number).symbols ≤ budget
    → unpacking_in v budget ≡ unpacked s c e
    → s ≤ (level_sizes v.opened.header v.number).symbols
few-drawn v budget {s} {c} {e} h is =
    let p : Passes v = accepted-passes v budget (s, c, e, is) in
    let told : (level_sizes v.opened.header v.number).symbols ≡ allowed v = told-allowed v p in
    let full : allowed v ≤ budget = omega (arith, told) in
    let d = (exact_acceptance v p budget full).0 (s, c, e, is) in
    let few : length (symbols_of v d.0) ≤ allowed v = script-allowed v p d.0 d.1 in
    let both = sym is ∙ blocks_by_script v p d.0 d.1 budget (omega arith) in
    let same : s ≡ length (symbols_of v d.0) = cc in
    omega (arith, told, same)

-- it leaves as many bytes as it was lent
module _ (r : Record) (file : List ℕ) (p : Palettes) (n pitch distance budget : ℕ) (dst : List ℕ) where
  as_long : {s c : ℕ} {e : List ℕ} → unpacking r file p n pitch distance budget dst ≡ unpacked s c e → length e ≡ length dst
  as_long is =
      (subst (λ (x : Unpacking). LevelEnds r file p n pitch distance budget dst x) is (level-ends r file p n pitch distance budget dst)
      ).leaves.long

module _ (r : Record) (file : List ℕ) (p : Palettes) (ready : Ready r p) where
  abbrev h : Header
  h = r.header

  from : (n : ℕ) (f : Far) (dst : List ℕ) → f.level + n ≤ r.header.levels → f.from + bytes_of r.header f.level n ≤ length dst
      → symbols_for r.header f.level n ≤ f.left → Left (several_from n r file p f dst).answer.refusal
  unfolding several_from onward
  from zero f dst levels bytes symbols = inl refl
  from (suc n) f dst levels bytes symbols =
      by (λ g d a b c. from n g d a b c) (unpacking r file p f.level z.pitch z.distance f.left (drop f.from dst)) refl
      (told-enough r file p f.level f.left (drop f.from dst) ready (omega arith) (omega (arith, length-drop f.from dst))
      (omega arith))
    where
      z : LevelSizes
      z = level_sizes r.header f.level

      by : ((g : Far) (d : List ℕ) → g.level + n ≤ r.header.levels → g.from + bytes_of r.header g.level n ≤ length d
          → symbols_for r.header g.level n ≤ g.left
          → Left (several_from n r file p g d).answer.refusal) → (u : Unpacking)
          → unpacking r file p f.level z.pitch z.distance f.left (drop f.from dst) ≡ u → Told u
          → Left (onward f z.bytes dst (several_from n r file p) u).answer.refusal
      by ih (declined m s b rest) is t = inr t
      by ih (unpacked s c rest) is t =
          let few : s ≤ z.symbols = few-drawn (given_by r file p f.level z.pitch z.distance (drop f.from dst)) f.left
          (omega arith) is in
          let long : length rest ≡ length (drop f.from dst) = as_long r file p f.level z.pitch z.distance f.left
          (drop f.from dst) is in
          let all : length (take f.from dst ++ rest) ≡ length dst =
          omega (arith, length-append (take f.from dst) rest, length-take-le f.from dst (omega arith), length-drop f.from dst) in
          ih (further f z.bytes s c) (take f.from dst ++ rest) (omega arith) (omega arith) (omega arith)

-- ---- the call

pub levels-told : (c : LevelsCall) → LevelsSame c → LevelsTold c
levels-told c s ready there bytes symbols =
    let all : suc (c.opened.header.levels - suc c.first) ≡ c.opened.header.levels - c.first = omega arith in
    let told : symbols_for c.opened.header c.first (c.opened.header.levels - c.first) ≤ c.budget =
    omega (arith, as_sum c.opened.header c.first (c.opened.header.levels - c.first)) in
    rw (s.answer, all) (from c.opened c.file c.palettes ready (c.opened.header.levels - c.first)
    (begun c.first c.budget) c.destination (omega arith) (omega arith) told)
