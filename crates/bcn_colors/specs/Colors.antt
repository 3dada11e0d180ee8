-- A block's four colours as numbers of 32 bits; and two numbers in one, by which the code works on both ends at once.
use Rattle.std.specs.Prelude.{ℕ, ◌+◌, ◌*◌, ◌/◌, ◌%◌, ◌<◌, Bool, ◌≡◌, List, get_or}
use Rattle.crn_format.specs.Choice.{pick}
use Rattle.bcn_format.specs.Channels.{byte, widened, weighed}
use Rattle.bcn_format.specs.Blocks.{Part, red, green, blue, part_of, shade, cover}
use Rattle.bcn_format.specs.Packed.{packed}
use Rattle.bcn_colors.specs.declared.Both.{Both}

-- each of four numbers is its selector's colour, with an alpha
pub record Palette (four : Bool) (alpha : ℕ → ℕ) (v w : ℕ) (r : List ℕ) : Type 0 where
  pub each : (i : ℕ) → i < 4
      → get_or r i 0 ≡ packed (byte (shade four red v w i)) (byte (shade four green v w i)) (byte (shade four blue v w i)) (alpha i)

-- full, but for the transparent colour
abbrev pub covered : Bool → ℕ → ℕ
covered four i = byte (cover four i)

-- and none, for an alpha that is added
abbrev pub bare : ℕ → ℕ
bare i = 0

-- an alpha that is the same for each, but for the transparent colour
pub record Alpha (four : Bool) (k : ℕ) (alpha : ℕ → ℕ) : Type 0 where
  pub most : (i : ℕ) → i < 3 → k ≡ alpha i
  pub last : pick four k 0 ≡ alpha 3

-- two numbers in one of 64 bits
abbrev pub twice : ℕ → ℕ → ℕ
twice a b = a + 4294967296 * b

-- both modulo m
abbrev pub lowest : ℕ → ℕ → ℕ
lowest m x = twice (x % m) (x / 4294967296 % m)

-- an end in 8 bits a channel
abbrev pub end : ℕ → Part → ℕ
end w p = widened p.bits (part_of p w)

-- two bytes in one
pub record TwoBytes (a b x : ℕ) : Type 0 where
  pub is : x ≡ twice a b
  pub first : a < 256
  pub second : b < 256

-- two colours, by the bytes of their channels
pub record TwoColors (a b : Part → ℕ) (c : Both) : Type 0 where
  pub reds : TwoBytes (a red) (b red) c.red
  pub greens : TwoBytes (a green) (b green) c.green
  pub blues : TwoBytes (a blue) (b blue) c.blue

-- the parts of the way between the ends: three where there are four colours, else two
abbrev pub top_of : Bool → ℕ
top_of four = pick four 3 2

-- one of `top` parts of the way from the one to the other, rounded down
abbrev pub partway : ℕ → ℕ → ℕ → ℕ
partway top a b = weighed top 1 a b / top

abbrev pub mix : ℕ → (Part → ℕ) → (Part → ℕ) → Part → ℕ
mix top a b p = partway top (a p) (b p)
