-- What is compared of decoder tables: not how they are laid out, but what is drawn from them.
use Rattle.std.specs.Prelude.{ℕ, ◌≡◌, List}
use contract.Lifetimes.{Lfts}
use Rattle.std.specs.Borrow.{Bor}
use Rattle.crn_symbol_codec.specs.Drawing.{drew}
use Rattle.crn_symbol_codec.specs.declared.Cursor.{Cursor}
use Rattle.crn_symbol_codec.specs.Taking.{Taken}
use Rattle.crn_symbol_codec.specs.declared.Decoder.{Decoder}
use Rattle.crn_symbol_codec.proofs.draw.Reads as draw
use Rattle.crn_short_draw.proofs.draw.Reads as short-draw

-- what a draw takes: a decoder table, a segment and a cursor
abbrev Drawing : Type 0
Drawing = Decoder × (Bor (List ℕ) × (Cursor × Unit {0}))

-- whatever a draw with this contract gives by the one table, it gives by the other, at every cursor of every segment
abbrev pub SameBy : (Lfts 2 → Drawing → Taken → Drawing → Type 0) → (code₁ code₂ : Decoder) → Type 0
SameBy post code₁ code₂ =
    (seg : Bor (List ℕ)) (c : Cursor) (κ₁ κ₂ : Lfts 2) (r s : Taken) (f g : Drawing)
    → post κ₁ (code₁, (seg, (c, tt))) r f → post κ₂ (code₂, (seg, (c, tt))) s g → drew r ≡ drew s

-- the same of either draw
abbrev pub SameDraws : (code₁ code₂ : Decoder) → Type 0
SameDraws code₁ code₂ = SameBy draw.Post code₁ code₂ × SameBy short-draw.Post code₁ code₂

-- two calls that were given the same, and whose ends a contract allows, leave tables of the same draws: `table` is the lookup and the
-- sorted symbols that are left, where `there` says that there is one
abbrev pub DrawsSettled : {K A E : Type 0} → (K → A → Unit {0} → E → Type 0) → (A → Type 0) → (A → E → List ℕ × List ℕ) → Type 0
DrawsSettled {K} {A} {E} post there table =
    (κ₁ κ₂ : K) (a : A) (d e : E) → there a → post κ₁ a tt d → post κ₂ a tt e → (code₁ code₂ : Decoder)
    → code₁.lookup.now ≡ (table a d).0 → code₁.sorted.now ≡ (table a d).1
    → code₂.lookup.now ≡ (table a e).0 → code₂.sorted.now ≡ (table a e).1
    → SameDraws code₁ code₂
