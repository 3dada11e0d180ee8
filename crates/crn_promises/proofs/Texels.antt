-- What the definition of texels promises, of a call that answers and leaves what it says.
use Prim.Native.Nat.{ℕ, zero, suc, ◌+◌, ◌*◌, ◌/◌, ◌^◌, ◌≤◌, ◌<◌}
use mathlib.Core.Bool.{Bool, true, false, false≢true}
use mathlib.Core.Logic.{◌↔◌, ⊎_elim}
use mathlib.Core.List.{[], ◌∷◌}
use mathlib.Core.Path.{◌≡◌, refl, sym, ap, subst, ◌∙◌}
use native.Mathlib.Nat.{div-le_self}
use native.Mathlib.Omega.{arith}
use borrow.Author.Tests.{lt-ltb, le-ltb, ltb-true, ltb-false, le-leb, eqb-false}
use lib.Dec.{ltb, eqb}
use lib.ListN.{length, get_or}
use Rattle.crn_format.specs.Choice.{pick, not}
use Rattle.crn_format.specs.declared.Kind.TheVariants.{DXT1, DXT5}
use Rattle.crn_format.specs.Header.{kind_of, block_bytes, within_limits}
use Rattle.crn_format.specs.Limits.{max_side}
use Rattle.crn_format.specs.Grid.{pixels, blocks}
use Rattle.crn_format.specs.Unpacking.{grid_of}
use Rattle.crn_format.specs.declared.Header.{Header}
use Rattle.crn_formats.proofs.Limited.{limited}
use Rattle.crn_sizes.specs.Sizes.{level_sizes}
use Rattle.crn_blocks.proofs.Places.{below_or}
use Rattle.crn_laws_total.specs.Refusals.{among}
use Rattle.bcn_format.specs.Channels.{Channel, none, byte}
use Rattle.bcn_format.specs.Blocks.{red, green, blue, colors, first_word, second_word, color_selector, shade, cover, texel}
use Rattle.bcn_format.specs.Picture.{channel, texel_place, side, fine, enough, reach, refusal}
use Rattle.bcn_format.specs.declared.Face.{Face}
use Rattle.texels.specs.Sheet as sheet
use Rattle.texels.proofs.Refusing.{none_due}
use Rattle.texels.proofs.Near.{untouched, kept, long_as_before, texel-there, near}
use Rattle.crn_promises.specs.Calls.{TexelsCall}
use Rattle.crn_promises.specs.Promises.{TexelsSame, TexelsTotal, TexelsExact, TexelsNear, TexelsModes, TexelsTold, start_of, in_block, CutOut}

-- ---- which number, exactly when

-- of tests a to d, the first of which must hold and the others must not
record Numbered (n : ℕ) (a b c d : Bool) : Type 0 where
  one_of : among n (0 ∷ 2 ∷ 18 ∷ 28 ∷ 12 ∷ []) ≡ true
  first : (n ≡ 2) ↔ (a ≡ false)
  second : (n ≡ 18) ↔ ((a ≡ true) × (b ≡ true))
  third : (n ≡ 28) ↔ ((a ≡ true) × ((b ≡ false) × (c ≡ true)))
  fourth : (n ≡ 12) ↔ ((a ≡ true) × ((b ≡ false) × ((c ≡ false) × (d ≡ true))))

numbered : (a b c d : Bool) → Numbered (pick (not a) 2 (pick b 18 (pick c 28 (pick d 12 0)))) a b c d
numbered false b c d =
    record {
      one_of = refl;
      first = ((λ _. refl), (λ _. refl));
      second = ((λ e. absurd (omega arith)), (λ f. absurd (false≢true f.0)));
      third = ((λ e. absurd (omega arith)), (λ f. absurd (false≢true f.0)));
      fourth = ((λ e. absurd (omega arith)), (λ f. absurd (false≢true f.0)));
    }
numbered true true c d =
    record {
      one_of = refl;
      first = ((λ e. absurd (omega arith)), (λ f. absurd (false≢true (sym f))));
      second = ((λ _. (refl, refl)), (λ _. refl));
      third = ((λ e. absurd (omega arith)), (λ f. absurd (false≢true (sym f.1.0))));
      fourth = ((λ e. absurd (omega arith)), (λ f. absurd (false≢true (sym f.1.0))));
    }
numbered true false true d =
    record {
      one_of = refl;
      first = ((λ e. absurd (omega arith)), (λ f. absurd (false≢true (sym f))));
      second = ((λ e. absurd (omega arith)), (λ f. absurd (false≢true f.1)));
      third = ((λ _. (refl, (refl, refl))), (λ _. refl));
      fourth = ((λ e. absurd (omega arith)), (λ f. absurd (false≢true (sym f.1.1.0))));
    }
numbered true false false true =
    record {
      one_of = refl;
      first = ((λ e. absurd (omega arith)), (λ f. absurd (false≢true (sym f))));
      second = ((λ e. absurd (omega arith)), (λ f. absurd (false≢true f.1)));
      third = ((λ e. absurd (omega arith)), (λ f. absurd (false≢true f.1.1)));
      fourth = ((λ _. (refl, (refl, (refl, refl)))), (λ _. refl));
    }
numbered true false false false =
    record {
      one_of = refl;
      first = ((λ e. absurd (omega arith)), (λ f. absurd (false≢true (sym f))));
      second = ((λ e. absurd (omega arith)), (λ f. absurd (false≢true f.1)));
      third = ((λ e. absurd (omega arith)), (λ f. absurd (false≢true f.1.1)));
      fourth = ((λ e. absurd (omega arith)), (λ f. absurd (false≢true f.1.1.1)));
    }

pub texels-total : (c : TexelsCall) → TexelsSame c → TexelsTotal c
unfolding refusal
texels-total c same =
    rw same.number (record {
      number = n.one_of;
      size = n.first;
      pitch = ((λ e. let f = n.second.0 e in (f.0, ltb-true p w f.1)), (λ f. n.second.1 (f.0, lt-ltb p w f.1)));
      blocks = (
        (λ e. let f = n.third.0 e in (f.0, (ltb-false p w f.1.0, ltb-true g m f.1.1))),
        (λ f. n.third.1 (f.0, (le-ltb p w f.1.0, lt-ltb g m f.1.1))),
      );
      room = (
        (λ e. let f = n.fourth.0 e in (f.0, (ltb-false p w f.1.0, (ltb-false g m f.1.1.0, ltb-true l t f.1.1.1)))),
        (λ f. n.fourth.1 (f.0, (le-ltb p w f.1.0, (le-ltb g m f.1.1.0, lt-ltb l t f.1.1.1)))),
      );
      untouched = λ some. untouched c.format c.face c.blocks c.buffer same (λ e. some (sym same.number ∙ e));
    })
  where
    p : ℕ
    p = c.face.pitch

    w : ℕ
    w = 4 * c.face.width

    g : ℕ
    g = length c.blocks

    m : ℕ
    m = enough (kind_of c.format) c.face

    l : ℕ
    l = length c.buffer

    t : ℕ
    t = reach c.face

    n : Numbered (refusal c.format c.face g l) (fine c.format c.face) (ltb p w) (ltb g m) (ltb l t)
    n = numbered (fine c.format c.face) (ltb p w) (ltb g m) (ltb l t)

-- ---- every byte

pub texels-exact : (c : TexelsCall) → TexelsSame c → TexelsExact c
texels-exact c same =
    record {
      texel = λ z x y k at h. texel-there c.format c.face c.blocks c.buffer same z at h;
      stay = λ z k out. kept c.format c.face c.blocks c.buffer same z k out;
      long = long_as_before c.format c.face c.blocks c.buffer same;
    }

pub texels-near : (c : TexelsCall) → TexelsSame c → TexelsNear c
texels-near c same z bytes x y k at h = near c.format c.face c.blocks c.buffer same z bytes at h

-- ---- the modes

three_of-four : (p q r l : Channel) (k : ℕ) → k < 3 → get_or (p ∷ q ∷ r ∷ l ∷ []) k none ≡ get_or (p ∷ q ∷ r ∷ []) k none
three_of-four p q r l zero h = refl
three_of-four p q r l (suc zero) h = refl
three_of-four p q r l (suc (suc zero)) h = refl
three_of-four p q r l (suc (suc (suc k))) h = absurd (omega arith)

no-channel : (k : ℕ) → get_or (none ∷ none ∷ none ∷ none ∷ []) k none ≡ none
no-channel zero = refl
no-channel (suc zero) = refl
no-channel (suc (suc zero)) = refl
no-channel (suc (suc (suc zero))) = refl
no-channel (suc (suc (suc (suc k)))) = refl

module _ (c : TexelsCall) (same : TexelsSame c) (z : c.answer ≡ 0) {x y : ℕ} (at : sheet.In c.face x y) where
  there : (k : ℕ) → k < 4
      → get_or c.after (texel_place c.face x y + k) 0 ≡ byte (channel (kind_of c.format) c.face c.blocks x y k)
  there k h = texel-there c.format c.face c.blocks c.buffer same z at h

  four_colours : kind_of c.format ≡ DXT5 → (k : ℕ) → k < 3
      → get_or c.after (texel_place c.face x y + k) 0
      ≡ byte (get_or (colors true (first_word c.blocks (start_of c DXT5 x y + 8)) (second_word c.blocks (start_of c DXT5 x y + 8))
      (color_selector c.blocks (start_of c DXT5 x y + 8) (in_block x y))) k none)
  unfolding texel
  four_colours e k h = (rw e at (there k (omega arith))) ∙ ap byte (three_of-four _ _ _ _ k h)

  -- the words and the selector of a BC1 texel
  v : ℕ
  v = first_word c.blocks (start_of c DXT1 x y)

  w : ℕ
  w = second_word c.blocks (start_of c DXT1 x y)

  i : ℕ
  i = color_selector c.blocks (start_of c DXT1 x y) (in_block x y)

  -- its bytes in a mode
  abbrev InMode : ℕ → Bool → Type 0
  InMode k four =
      get_or c.after (texel_place c.face x y + k) 0
      ≡ byte (get_or (shade four red v w i ∷ shade four green v w i ∷ shade four blue v w i ∷ cover four i ∷ []) k none)

  by_order : kind_of c.format ≡ DXT1 → (k : ℕ) → k < 4 → InMode k (ltb w v)
  unfolding texel v w i
  by_order e k h = rw e at (there k h)

  cut_out : kind_of c.format ≡ DXT1 → (k : ℕ) → k < 4 → CutOut c x y → get_or c.after (texel_place c.face x y + k) 0 ≡ 0
  unfolding shade cover byte v w i
  cut_out e k h (below, three) = (rw three at (subst (InMode k) (le-ltb w v below) (by_order e k h))) ∙ ap byte (no-channel k)

  covered_by : (four : Bool) → (four ≡ false → i < 3) → byte (cover four i) ≡ 255
  unfolding cover byte
  covered_by true less = refl
  covered_by false less = rw (lt-ltb i 3 (less refl))

  solid : kind_of c.format ≡ DXT1 → (CutOut c x y → ⊥) → get_or c.after (texel_place c.face x y + 3) 0 ≡ 255
  unfolding v w i
  solid e not-cut =
      by_order e 3 (omega arith)
      ∙ covered_by (ltb w v) (λ f. ⊎_elim (λ lt. lt) (λ ge. absurd (not-cut (ltb-false w v f, omega (arith, ge)))) (below_or i 3))

pub texels-modes : (c : TexelsCall) → TexelsSame c → TexelsModes c
texels-modes c same =
    record {
      bc3 = λ z e x y k at h. four_colours c same z at e k h;
      clear = λ z e x y k at h cut. cut_out c same z at e k h cut;
      opaque = λ z e x y at not-cut. solid c same z at e not-cut;
    }

-- ---- a level's picture

side-there : (n : ℕ) (level : ℕ) → n ≤ max_side → side (pixels n level) ≡ true
side-there n level few = within (n / 2 ^ level) (eqb (n / 2 ^ level) 0) refl (omega (arith, div-le_self n (2 ^ level)))
  where
    within : (m : ℕ) (none : Bool) → eqb m 0 ≡ none → m ≤ max_side → side (pick none 1 m) ≡ true
    within m true e h = refl
    within m false e h = let some : m ≡ 0 → ⊥ = eqb-false m 0 e in rw (le-leb 1 m (omega arith), le-leb m max_side h)

module _ (h : Header) (l : ℕ) (e : within_limits h ≡ true) (face : Face) (wide : face.width ≡ pixels h.width l)
    (high : face.height ≡ pixels h.height l) where
  fine-there : fine h.format face ≡ true
  fine-there =
      let limits = limited h e in
      rw (limits.known, wide, high, side-there h.width l limits.width, side-there h.height l limits.height)

  enough-there : l < h.levels → enough (kind_of h.format) face ≡ (level_sizes h l).distance
  unfolding level_sizes grid_of
  enough-there there =
      rw (e, lt-ltb l h.levels there, wide, high)
      (turned (blocks (pixels h.width l)) (blocks (pixels h.height l)) (block_bytes (kind_of h.format)))
    where
      turned : (a b c : ℕ) → c * (a * b) ≡ b * (a * c)
      turned a b c = omega arith

pub texels-told : (c : TexelsCall) → TexelsSame c → TexelsTold c
texels-told c same h l e there is wide high pitch given-blocks room =
    let ok : fine c.format c.face ≡ true = rw is (fine-there h l e c.face wide high) in
    let given : enough (kind_of c.format) c.face ≤ length c.blocks =
    rw (is, enough-there h l e c.face wide high there) given-blocks in
    same.number ∙ none_due c.format c.face (length c.blocks) (length c.buffer) ok pitch given room
