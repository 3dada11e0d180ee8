-- With faces outermost a plan is sound, and each byte behind the head is one of a surface. Assumes nothing.
use Prim.Native.Nat.{ℕ, zero, suc, ◌+◌, ◌*◌, ◌-◌, ◌≤◌, ◌<◌}
use mathlib.Core.Path.{◌≡◌, ap}
use mathlib.Core.Logic.{◌⊎◌, inl, inr, ⊎_elim}
use native.Mathlib.Omega.{arith}
use native.Mathlib.Nat.{suc-mul, zero-mul}
use Rattle.crn_blocks.proofs.Places.{below_or, further}
use Rattle.picture.specs.declared.Picture.{Picture}
use Rattle.picture.specs.Surfaces.{place_in, surface, chain_to, chain, by_face}
use Rattle.picture.proofs.Chains.{chain-before, chain-fours}
use Rattle.law_containers.specs.Standing.{InSurface, Sound}

-- ---- which level and which face a byte is of

module _ (p : Picture) where
  -- a byte of a face is one of a level's
  record AtLevel (n i : ℕ) : Type 0 where
    level : ℕ
    below : level < n
    starts : chain_to p level ≤ i
    ends : i < chain_to p level + surface p level

  level-of : (n i : ℕ) → i < chain_to p n → AtLevel n i
  unfolding chain_to
  level-of zero i h = absurd (omega arith)
  level-of (suc n) i h =
      ⊎_elim (λ lt.
      let a = level-of n i lt in
      record { level = a.level; below = omega (arith, a.below); starts = a.starts; ends = a.ends })
      (λ ge. record { level = n; below = omega arith; starts = ge; ends = h }) (below_or i (chain_to p n))

-- a byte of n stretches of m is one of the f-th
pub record AtFace (m n i : ℕ) : Type 0 where
  pub face : ℕ
  pub below : face < n
  pub starts : face * m ≤ i
  pub ends : i < face * m + m

pub face-of : (m n i : ℕ) → i < n * m → AtFace m n i
face-of m zero i h = absurd (omega (arith, zero-mul m))
face-of m (suc n) i h =
    ⊎_elim (λ lt.
    let a = face-of m n i lt in
    record { face = a.face; below = omega (arith, a.below); starts = a.starts; ends = a.ends })
    (λ ge. record { face = n; below = omega arith; starts = ge; ends = omega (arith, suc-mul n m) }) (below_or i (n * m))

-- ---- faces outermost

module _ (head : ℕ) (p : Picture) where
  abbrev place : ℕ → ℕ → ℕ
  place f l = place_in (by_face head p) f l

  face-apart : (f g l m : ℕ) → l < p.levels → f < g → place f l + surface p l ≤ place g m
  face-apart f g l m hl h = omega (arith, chain-before p l p.levels hl, further (chain p) h)

  pub face_sound : Sound p head (by_face head p)
  face_sound =
      record {
        headed = λ f l hf hl. omega arith;
        far = λ l hl. omega (arith, chain-before p l p.levels hl);
        fours = λ l. chain-fours p p.levels;
        within = λ f l hf hl. omega (arith, chain-before p l p.levels hl, further (chain p) hf);
        apart = λ f g l m hf hg hl hm differ.
            ⊎_elim (λ lt. inl (face-apart f g l m hl lt))
            (λ ge. ⊎_elim (λ lt. inr (face-apart g f m l hm lt)) (λ le. same f g l m (omega arith) differ) (below_or g f)) (below_or f g);
      }
    where
      same : (f g l m : ℕ) → f ≡ g → (l ≡ m → ⊥) → (place f l + surface p l ≤ place g m) ⊎ (place g m + surface p m ≤ place f l)
      same f g l m e differ =
          let z : f * chain p ≡ g * chain p = ap (λ (n : ℕ). n * chain p) e in
          ⊎_elim (λ lt. inl (omega (arith, chain-before p l m lt)))
          (λ ge. ⊎_elim (λ lt. inr (omega (arith, chain-before p m l lt))) (λ le. absurd (differ (omega arith))) (below_or m l))
          (below_or l m)

  pub face_covers : (i : ℕ) → head ≤ i → i < (by_face head p).total → (f : ℕ) × (l : ℕ) × InSurface (by_face head p) p f l i
  face_covers i hi h =
      let a = face-of (chain p) p.faces (i - head) (omega arith) in
      let b = level-of p p.levels (i - head - a.face * chain p) (omega (arith, a.starts, a.ends)) in (
        a.face,
        b.level,
        record {
          face = a.below;
          level = b.below;
          starts = omega (arith, a.starts, b.starts);
          ends = omega (arith, a.starts, b.ends);
        },
      )
