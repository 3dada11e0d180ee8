-- Opening in two calls (document 02, request 2). Two records are the same, field by field, exactly where they are equal; so the load goes
-- on exactly where this record is what the look finds in this file, and then it answers as opening does.
use Prim.Native.Nat.{ℕ}
use mathlib.Core.Path.{◌≡◌, refl, sym, ap, ap₂, ◌∙◌}
use mathlib.Core.Bool.{Bool, true, false, false≢true}
use mathlib.Core.List.{List, [], ◌∷◌}
use lib.Dec.{eqb}
use borrow.Author.Tests.{eq-eqb, eqb-true}
use Rattle.crn_format.specs.Choice.{both}
use Rattle.crn_format.specs.Header.{header_of}
use Rattle.crn_format.specs.Look.{found, look_of}
use Rattle.crn_format.specs.Opening.{Palettes, shut, after_look, opening}
use Rattle.crn_format.specs.Loading.{same_all, same_part, same_sizes, same_kind, same_parts, same_levels, same_header, agrees, loading}
use Rattle.crn_format.specs.declared.Part.{Part}
use Rattle.crn_format.specs.declared.Header.{Header}
use Rattle.crn_format.specs.declared.Looked.{Looked}
use Rattle.crn_format.proofs.Choices.{both_hold}
use Rattle.crn_format.proofs.LookAndOpen.{look-passes, look-goes-on}

-- ---- a record is the same as itself

self : (n : ℕ) → eqb n n ≡ true
self n = eq-eqb n n refl

all_self : {A : Type 0} (same : A → A → Bool) → ((x : A) → same x x ≡ true) → (xs : List A) → same_all same xs xs ≡ true
unfolding same_all
all_self same q [] = refl
all_self same q (x ∷ xs) = ap₂ both (q x) (all_self same q xs)

part_self : (p : Part) → same_part p p ≡ true
unfolding same_part
part_self p = simp self

pub header_self : (h : Header) → same_header h h ≡ true
unfolding same_header same_sizes same_kind same_parts same_levels
header_self h = simp (self, part_self, all_self eqb self)

-- ---- and as no other

-- a field that is the same, and the rest
field_and : {m n : ℕ} {rest : Bool} → both (eqb m n) rest ≡ true → (m ≡ n) × (rest ≡ true)
field_and {m} {n} {rest} e = let h = both_hold (eqb m n) rest e in (eqb-true m n h.0, h.1)

all_equal : {A : Type 0} (same : A → A → Bool) → ((x y : A) → same x y ≡ true → x ≡ y) → (xs ys : List A) → same_all same xs ys ≡ true
    → xs ≡ ys
unfolding same_all
all_equal same q [] [] e = refl
all_equal same q [] (y ∷ ys) e = absurd (false≢true e)
all_equal same q (x ∷ xs) [] e = absurd (false≢true e)
all_equal same q (x ∷ xs) (y ∷ ys) e =
    let h = both_hold (same x y) (same_all same xs ys) e in
    ap₂ ◌∷◌ (q x y h.0) (all_equal same q xs ys h.1)

part_equal : (a b : Part) → same_part a b ≡ true → a ≡ b
unfolding same_part
part_equal a b e =
    let first = field_and e in
    let second = field_and first.1 in
    let o : a.offset ≡ b.offset = first.0 in
    let s : a.size ≡ b.size = second.0 in
    let c : a.count ≡ b.count = eqb-true _ _ second.1 in
    let all : ◌≡◌ {A = Part} (record { offset = a.offset; size = a.size; count = a.count }) b = rw (o, s, c) refl in
    all

module _ (a b : Header) where
  sizes_equal : same_sizes a b ≡ true
      → (a.header_size ≡ b.header_size) × ((a.header_crc16 ≡ b.header_crc16)
      × ((a.data_size ≡ b.data_size) × (a.data_crc16 ≡ b.data_crc16)))
  unfolding same_sizes
  sizes_equal e =
      let s = field_and e in
      let t = field_and s.1 in
      let u = field_and t.1 in
      (s.0, (t.0, (u.0, eqb-true _ _ u.1)))

  kind_equal : same_kind a b ≡ true
      → (a.width ≡ b.width) × ((a.height ≡ b.height) × ((a.levels ≡ b.levels) × ((a.faces ≡ b.faces)
      × ((a.format ≡ b.format) × ((a.flags ≡ b.flags) × ((a.reserved ≡ b.reserved)
      × ((a.userdata0 ≡ b.userdata0) × (a.userdata1 ≡ b.userdata1))))))))
  unfolding same_kind
  kind_equal e =
      let s = field_and e in
      let t = field_and s.1 in
      let u = field_and t.1 in
      let v = field_and u.1 in
      let w = field_and v.1 in
      let x = field_and w.1 in
      let y = field_and x.1 in
      let z = field_and y.1 in
      (s.0, (t.0, (u.0, (v.0, (w.0, (x.0, (y.0, (z.0, eqb-true _ _ z.1))))))))

  part_and : {p q : Part} {rest : Bool} → both (same_part p q) rest ≡ true → (p ≡ q) × (rest ≡ true)
  part_and {p} {q} {rest} e = let h = both_hold (same_part p q) rest e in (part_equal p q h.0, h.1)

  parts_equal : same_parts a b ≡ true
      → (a.color_endpoints ≡ b.color_endpoints) × ((a.color_selectors ≡ b.color_selectors)
      × ((a.alpha_endpoints ≡ b.alpha_endpoints) × ((a.alpha_selectors ≡ b.alpha_selectors)
      × ((a.tables_size ≡ b.tables_size) × (a.tables_offset ≡ b.tables_offset)))))
  unfolding same_parts
  parts_equal e =
      let s = part_and e in
      let t = part_and s.1 in
      let u = part_and t.1 in
      let v = part_and u.1 in
      let w = field_and v.1 in
      (s.0, (t.0, (u.0, (v.0, (w.0, eqb-true _ _ w.1)))))

  levels_equal : same_levels a b ≡ true → a.level_offsets ≡ b.level_offsets
  unfolding same_levels
  levels_equal e = all_equal eqb eqb-true _ _ e

  pub header_equal : same_header a b ≡ true → a ≡ b
  unfolding same_header
  header_equal e =
      let s = both_hold (same_sizes a b) _ e in
      let k = both_hold (same_kind a b) _ s.1 in
      let p = both_hold (same_parts a b) _ k.1 in
      let x = sizes_equal s.0 in
      let y = kind_equal k.0 in
      let z = parts_equal p.0 in
      let l = levels_equal p.1 in
      let all : ◌≡◌ {A = Header} (record {
        header_size = a.header_size;
        header_crc16 = a.header_crc16;
        data_size = a.data_size;
        data_crc16 = a.data_crc16;
        width = a.width;
        height = a.height;
        levels = a.levels;
        faces = a.faces;
        format = a.format;
        flags = a.flags;
        reserved = a.reserved;
        userdata0 = a.userdata0;
        userdata1 = a.userdata1;
        color_endpoints = a.color_endpoints;
        color_selectors = a.color_selectors;
        alpha_endpoints = a.alpha_endpoints;
        alpha_selectors = a.alpha_selectors;
        tables_size = a.tables_size;
        tables_offset = a.tables_offset;
        level_offsets = a.level_offsets;
      }) b
      = rw (
        x.0,
        x.1.0,
        x.1.1.0,
        x.1.1.1,
        y.0,
        y.1.0,
        y.1.1.0,
        y.1.1.1.0,
        y.1.1.1.1.0,
        y.1.1.1.1.1.0,
        y.1.1.1.1.1.1.0,
        y.1.1.1.1.1.1.1.0,
        y.1.1.1.1.1.1.1.1,
        z.0,
        z.1.0,
        z.1.1.0,
        z.1.1.1.0,
        z.1.1.1.1.0,
        z.1.1.1.1.1,
        l,
      ) refl in
      all

-- ---- the load goes on exactly where the look gives this record

module _ (h : Header) (file : List ℕ) where
  pub agrees-found : agrees h file ≡ true → look_of file ≡ found h
  unfolding agrees
  agrees-found e =
      let s = field_and e in
      let looked : Looked = look_of file in
      let same : looked.refusal ≡ 0 = s.0 in
      let header : h ≡ looked.header = header_equal h _ s.1 in
      let all : ◌≡◌ {A = Looked} (record { refusal = looked.refusal; header = looked.header }) (found h) = rw (same, sym header) refl in
      all

  pub found-agrees : look_of file ≡ found h → agrees h file ≡ true
  unfolding agrees
  found-agrees e = rw e (header_self h)

  -- the header that is handed in is then the file's
  pub agrees_own : agrees h file ≡ true → h ≡ header_of file
  agrees_own e =
      let f = agrees-found e in
      ap (λ (x : Looked). x.header) (sym f ∙ (look-passes file (ap (λ (x : Looked). x.refusal) f)).0)

  module _ (lent : Palettes) where
    -- so a look and a load answer as opening does
    pub load-goes-on : agrees h file ≡ true → loading h file lent ≡ opening file lent
    unfolding loading
    load-goes-on e =
        let f = agrees-found e in
        simp e (ap (after_look file lent) (agrees_own e)
        ∙ sym (look-goes-on file lent (ap (λ (x : Looked). x.refusal) f)))

    pub load_apart : agrees h file ≡ false → loading h file lent ≡ shut 17 0 lent
    unfolding loading
    load_apart e = simp e

-- ---- a look, and then a load by what it gave

module _ (file : List ℕ) where
  pub look-agrees : (look_of file).refusal ≡ 0 → agrees (look_of file).header file ≡ true
  look-agrees z =
      let own = (look-passes file z).0 in
      found-agrees (look_of file).header file (own ∙ ap found (ap (λ (x : Looked). x.header) (sym own)))

  -- a file that the look refuses is loaded by no record
  pub no-load : (lent : Palettes) → ((look_of file).refusal ≡ 0 → ⊥) → (h : Header) → loading h file lent ≡ shut 17 0 lent
  no-load lent refused h = by (agrees h file) refl
    where
      by : (b : Bool) → agrees h file ≡ b → loading h file lent ≡ shut 17 0 lent
      by true e = absurd (refused (ap (λ (x : Looked). x.refusal) (agrees-found h file e)))
      by false e = load_apart h file lent e
