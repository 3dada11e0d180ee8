-- What a run put into the lengths does to them.
use Prim.Native.Nat.{ℕ, ◌+◌, ◌-◌, ◌≤◌}
use mathlib.Core.List.{List, [], ◌++◌}
use mathlib.Core.Path.{◌≡◌, sym, ap, ◌∙◌}
use native.Mathlib.Omega.{arith}
use lib.ListN.{length, set, take, drop, replicate, length-drop, length-replicate, take-append-drop, replicate-append-replicate}
use lib.Seq.{paste, take-paste, drop-paste, take_all, take-add, take_at, drop_at, drop-drop, length-take-le, length-paste}
use borrow.Rule.Slice.PartMut.{put_mid}
use Rattle.std.proofs.lemmas.List.Edits.{paste_none, fill_from_more}
use Rattle.std.proofs.lemmas.Slice.{put_mid-paste}
use Rattle.crn_format.specs.Limits.{max_symbols}
use Rattle.crn_format.specs.Opening.{table_of}
use Rattle.crn_format.specs.declared.Table.{Table}

drop-replicate : (k m v : ℕ) → k ≤ m → drop k (replicate m v) ≡ replicate (m - k) v
drop-replicate k m v h =
    let e : m ≡ k + (m - k) = omega arith in
    ap (λ (n : ℕ). drop k (replicate n v)) e
    ∙ ap (drop k) (sym (replicate-append-replicate k (m - k) v))
    ∙ drop_at (replicate k v) (replicate (m - k) v) k (length-replicate k v)

-- a run of zeros where there are zeros already
pub zeros-front : (ls : List ℕ) (at n m : ℕ) → n ≤ m → drop at ls ≡ replicate m 0 → take (at + n) ls ≡ take at ls ++ replicate n 0
zeros-front ls at n m h e =
    let s : m ≡ n + (m - n) = omega arith in
    take-add at n ls
    ∙ ap (λ (t : List ℕ). take at ls ++ t)
    (ap (take n) (e ∙ ap (λ (k : ℕ). replicate k 0) s ∙ sym (replicate-append-replicate n (m - n) 0)) ∙ take_at (replicate n 0)
    (replicate (m - n) 0) n (length-replicate n 0))

pub zeros-rest : (ls : List ℕ) (at n m : ℕ) → at + n ≤ m → drop at ls ≡ replicate (m - at) 0 → drop (at + n) ls ≡ replicate (m - (at + n)) 0
zeros-rest ls at n m h e =
    let g : m - at - n ≡ m - (at + n) = omega arith in
    sym (drop-drop n at ls) ∙ ap (drop n) e ∙ drop-replicate n (m - at) 0 (omega arith) ∙ ap (λ (k : ℕ). replicate k 0) g

-- a run of n lengths v put at `at`
module _ (ls : List ℕ) (at n v : ℕ) (room : at + n ≤ length ls) where
  pub run-front : take (at + n) (paste ls at (replicate n v) n) ≡ take at ls ++ replicate n v
  run-front =
      let e = length-replicate n v in
      take-paste ls at (replicate n v) n (omega arith) (omega arith)
      ∙ ap (λ (t : List ℕ). take at ls ++ t) (take_all n (replicate n v) (omega arith))

  pub run-rest : (m : ℕ) → at + n ≤ m → drop at ls ≡ replicate (m - at) 0 → drop (at + n) (paste ls at (replicate n v) n) ≡ replicate
      (m - (at + n)) 0
  run-rest m h e =
      let f = length-replicate n v in
      drop-paste ls at (replicate n v) n (omega arith) (omega arith) ∙ zeros-rest ls at n m h e

  pub run_length : length (paste ls at (replicate n v) n) ≡ length ls
  run_length = let e = length-replicate n v in length-paste ls at (replicate n v) n room (omega arith)

-- a run of one is one store
pub run-one : (ls : List ℕ) (at n v : ℕ) → at + n ≤ length ls → n ≡ 1 → set ls at v ≡ paste ls at (replicate n v) n
run-one ls at n v h e =
    let z : at + 0 ≡ at = omega arith in
    rw e
    (ap (λ (k : ℕ). set ls k v) (sym z) ∙ ap (λ (l : List ℕ). set l (at + 0) v) (paste_none ls at (replicate 0 v))
    ∙ fill_from_more ls at 0 v (omega arith))

-- a run that is filled in is put there
pub run_filled : (ls : List ℕ) (at n v k : ℕ) {ys after : List ℕ} → at + n ≤ length ls → k ≡ n
    → ys ≡ replicate (length (take k (drop at ls))) v → after ≡ put_mid at k ls ys → after ≡ paste ls at (replicate n v) n
run_filled ls at n v k {ys} h e f g =
    let l : length (take k (drop at ls)) ≡ n = length-take-le k (drop at ls) (simp length-drop (omega arith)) ∙ e in
    g
    ∙ put_mid-paste at k ls ys (replicate n v) n (f ∙ ap (λ (m : ℕ). replicate m v) l) (sym e) (sym (length-replicate n v))

-- no lengths yet
pub none-long : {ls : List ℕ} → ls ≡ replicate max_symbols 0 → length ls ≡ max_symbols
none-long e = ap length e ∙ length-replicate {A = ℕ} max_symbols 0

pub table_none : {ls : List ℕ} → ls ≡ replicate max_symbols 0 → ◌≡◌ {A = Table} (record { count = 0; lengths = ls }) (table_of [])
table_none e = ap (λ (l : List ℕ). record { count = 0; lengths = l }) e

-- at the end: n lengths, and zero beyond them
pub table-whole : (ls : List ℕ) (n : ℕ) → n ≤ length ls → drop n ls ≡ replicate (max_symbols - n) 0
    → ◌≡◌ {A = Table} (record { count = n; lengths = ls }) (table_of (take n ls))
table-whole ls n h e =
    let l : length (take n ls) ≡ n = length-take-le n ls h in
    let w : ls ≡ take n ls ++ replicate (max_symbols - n) 0 = sym (take-append-drop n ls) ∙ ap (λ (t : List ℕ). take n ls ++ t) e in
    rw l (ap (λ (t : List ℕ). record { count = n; lengths = t }) w)
