-- A plane's eight bytes of a block, as one number, and the palettes that they are made of.
use Rattle.std.specs.Prelude.{ℕ, ◌+◌, ◌*◌, ◌≤◌, ◌<◌, ◌≡◌, length}
use Rattle.crn_format.specs.Grid.{Shade, color, alpha, half, little}

abbrev pub Half : Shade → ℕ → ℕ → ℕ → Type 0
Half p e s r = little 8 r ≡ half p e s

-- a plane's palettes have endpoint e and selector s
abbrev pub Has : Shade → ℕ → ℕ → Type 0
Has (color ends sels) e s = (e < length ends) × (s < length sels)
Has (alpha ends sels) e s = (e < length ends) × (3 * s + 2 < length sels)

-- they have m endpoints and n selectors
abbrev pub Reach : Shade → ℕ → ℕ → Type 0
Reach (color ends sels) m n = (m ≤ length ends) × (n ≤ length sels)
Reach (alpha ends sels) m n = (m ≤ length ends) × (3 * n ≤ length sels)
