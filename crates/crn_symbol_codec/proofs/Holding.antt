-- What a cursor's buffer holds: its first bits, and what stays true where bits are dropped and where bytes are added.
use Prim.Native.Nat.{ℕ, ◌+◌, ◌-◌, ◌*◌, ◌/◌, ◌%◌, ◌^◌, ◌<◌, ◌≤◌}
use mathlib.Core.List.{List}
use mathlib.Core.Path.{◌≡◌, sym, ap, ap₂, ◌∙◌}
use native.Mathlib.Decide.{dec_le}
use native.Mathlib.Omega.{arith}
use lib.Pow.{pow_pos, shr-shr}
use lib.ListN.{length}
use lib.Bits.{bit_or, or_block, or_self, or_zero_l, or_zero_r}
use Rattle.crn_format.specs.Bits.{spelled}
use Rattle.crn_format.proofs.Drawing.{field_lt, field_add}
use Rattle.crn_symbol_codec.specs.declared.Cursor.{Cursor}
use Rattle.crn_symbol_codec.specs.Cursors.{cut_at, place, past, Holds, Enough, Filled}
use Rattle.crn_bytes.proofs.Bytes.{field-front}
use Rattle.crn_symbol_codec.proofs.Cut.{cut_lt, cut_add, cut_front, cut_back, cut_zero, cut_short, cut_end}

-- the first bits
pub window : (s : List ℕ) (c : Cursor) (n : ℕ) → Holds s c → Enough s c 16 → n ≤ 16 → c.bits / 2 ^ (64 - n) ≡ spelled s (place c) n
window s c n h enough l =
    let e : n + (64 - n) ≡ 64 = omega arith in
    ap (λ (x : ℕ). x / 2 ^ (64 - n)) h.same ∙ sym (rw e at (cut_front s h.end (place c) n (64 - n))) ∙ go (dec_le (place c + n) h.end)
  where
    go : Dec (place c + n ≤ h.end) → cut_at s h.end (place c) n ≡ spelled s (place c) n
    go (yes a) = cut_short s h.end (place c) n a
    go (no a) = cut_end s h.end (place c) n (omega (arith, h.after, h.behind, enough (omega (arith, h.after, h.behind))))

-- the same in two shifts
pub window_twice : {s : List ℕ} {c : Cursor} (a b n : ℕ) → a + b ≡ 64 - n → Holds s c → Enough s c 16 → n ≤ 16
    → c.bits / 2 ^ a / 2 ^ b ≡ spelled s (place c) n
window_twice {s} {c} a b n e h enough l = shr-shr c.bits a b ∙ ap (λ (k : ℕ). c.bits / 2 ^ k) e ∙ window s c n h enough l

-- ---- l bits are dropped
dropped : (s : List ℕ) (c : Cursor) (l : ℕ) (h : Holds s c) → c.bits * 2 ^ l % 2 ^ 64 ≡ cut_at s h.end (place c + l) 64
dropped s c l h =
    let p = place c in
    let e = h.end in
    let g : l + 64 ≡ 64 + l = omega arith in
    let z = cut_zero s e (p + 64) l h.before in
    ap (λ (x : ℕ). x * 2 ^ l % 2 ^ 64) h.same
    ∙ ap (λ (x : ℕ). x % 2 ^ 64) (omega (arith, cut_add s e p 64 l, z))
    ∙ ap (λ (x : ℕ). cut_at s e p x % 2 ^ 64) (sym g)
    ∙ sym (cut_back s e p l 64)

pub place-past : {s : List ℕ} {c : Cursor} {l : ℕ} → Holds s c → l ≤ c.have → place (past c l) ≡ place c + l
place-past h k = omega (arith, h.behind)

pub after-drop : {s : List ℕ} {c : Cursor} {l : ℕ} → Holds s c → l ≤ c.have → Holds s (past c l)
after-drop {s} {c} {l} h k =
    record {
      some = omega (arith, h.some);
      within = h.within;
      behind = omega (arith, h.behind);
      end = h.end;
      after = h.after;
      before = omega (arith, h.before, place-past h k);
      same = dropped s c l h ∙ ap (λ (x : ℕ). cut_at s h.end x 64) (sym (place-past h k));
    }

-- ---- a refill: what is there and the next eight bytes
or_word : (s : List ℕ) (c : Cursor) → Holds s c → bit_or c.bits (spelled s (8 * c.next) 64 / 2 ^ c.have) ≡ spelled s (place c) 64
or_word s c h =
    let p = place c in
    let m = 64 - c.have in
    let e = h.end in
    let j = p + 64 - e in
    let d = e - 8 * c.next in
    let q : p + c.have ≡ 8 * c.next = omega (arith, h.behind) in
    let hm : c.have + m ≡ 64 = omega (arith, h.some) in
    let mh : m + c.have ≡ 64 = omega (arith, h.some) in
    let dj : d + j ≡ m = omega (arith, h.after, h.before, h.behind, h.some) in
    let n = 8 * c.next in
    let qd : n + d ≡ e = omega (arith, h.after) in
    let y = sym (rw mh at (field-front s n m c.have)) in
    let whole = rw (hm, q) at (cut_add s e p c.have m) in
    let all = rw (hm, q) at (field_add s p c.have m) in
    let a = cut_short s e p c.have (omega (arith, h.after)) in
    let part = rw (dj, qd) at (cut_add s e n d j) in
    let rest = rw (dj, qd) at (field_add s n d j) in
    let same = cut_short s e n d (omega (arith, h.after)) in
    let z = cut_zero s e e j (omega arith) in
    let inner : bit_or (cut_at s e n m) (spelled s n m) ≡ spelled s n m =
    ap₂ bit_or (part ∙ ap₂ (λ (u v : ℕ). u * 2 ^ j + v) same z) rest
    ∙ or_block j (spelled s n d) (spelled s n d) 0 (spelled s e j) (pow_pos j) (field_lt s e j)
    ∙ ap₂ (λ (u v : ℕ). u * 2 ^ j + v) (or_self (spelled s n d)) (or_zero_l (spelled s e j))
    ∙ sym rest in
    ap₂ bit_or (h.same ∙ whole ∙ ap (λ (u : ℕ). u * 2 ^ m + cut_at s e n m) a) (y ∙ zero_high (spelled s n m) m)
    ∙ or_block m (spelled s p c.have) 0 (cut_at s e n m) (spelled s n m) (cut_lt s e n m) (field_lt s n m)
    ∙ ap₂ (λ (u v : ℕ). u * 2 ^ m + v) (or_zero_r (spelled s p c.have)) inner
    ∙ sym all
  where
    zero_high : (x k : ℕ) → x ≡ 0 * 2 ^ k + x
    zero_high x k = omega arith

-- the cursor with the eight bytes x put in, of which some count as held: v bits are held then, and n is the next byte
abbrev put_in : Cursor → ℕ → ℕ → ℕ → Cursor
put_in c x v n = record { bits = bit_or c.bits (x / 2 ^ c.have); have = v; next = n }

-- b bytes count as held
pub filled : {s : List ℕ} {c : Cursor} (b : ℕ) {x v n : ℕ} → Holds s c → x ≡ spelled s (8 * c.next) 64
    → v ≡ c.have + 8 * b → n ≡ c.next + b → v ≤ 63 → n ≤ length s → (v < 56 → length s ≤ n) → Filled s c (put_in c x v n)
filled {s} {c} b {x} {v} {n} h w hv hn some within enough =
    let p : place (put_in c x v n) ≡ place c = omega (arith, h.behind) in
    record {
      holds = record {
        some = some;
        within = within;
        behind = omega (arith, h.behind);
        end = place c + 64;
        after = omega (arith, h.behind);
        before = omega (arith, p);
        same =
            ap (λ (z : ℕ). bit_or c.bits (z / 2 ^ c.have)) w
            ∙ or_word s c h
            ∙ sym (cut_short s (place c + 64) (place c) 64 (omega arith))
            ∙ ap (λ (z : ℕ). cut_at s (place c + 64) z 64) (sym p);
      };
      stays = p;
      enough = enough;
    }
