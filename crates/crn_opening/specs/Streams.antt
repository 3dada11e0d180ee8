-- The palettes of an opening, plane by plane.
use Rattle.std.specs.Prelude.{ℕ, ◌+◌, ◌*◌, ◌≤◌, ◌<◌, true, ◌≡◌, List, length, ⊤, Ok, Err}
use Rattle.std.specs.declared.result.Result.{Result}
use Rattle.crn_format.specs.Limits.{max_entries, too_long}
use Rattle.crn_format.specs.Reading.{Reading}
use Rattle.crn_format.specs.Refusals.{number_of}
use Rattle.crn_format.specs.Header.{within_limits, sizes_hold}
use Rattle.crn_format.specs.Palettes.{color_endpoints, color_selectors, alpha_endpoints, alpha_selectors}
use Rattle.crn_format.specs.Opening.{Palettes, Opening, shut, present, segments_stand, room_for, zeroed, palette_in}
use Rattle.crn_format.specs.declared.Fault.{Fault}
use Rattle.crn_format.specs.declared.Part.{Part}
use Rattle.crn_format.specs.declared.Header.{Header}
use Rattle.crn_formats.specs.Lent.{lent_of}

-- ---- what reading the streams may count on

-- a header that a look has let through: 2 and 3
pub record Seen (file : List ℕ) (h : Header) : Type 0 where
  pub within : within_limits h ≡ true
  pub sizes : sizes_hold file h ≡ true

-- and the checks before the stream: 4 and 5
pub record Passed (file : List ℕ) (h : Header) (lent : Palettes) : Type 0 where
  pub seen : Seen file h
  pub stand : segments_stand file h ≡ true
  pub room : room_for h lent ≡ true

-- a palette lies in the file, and its entries, of so many words each, in the buffer
pub record Fits (file : List ℕ) (p : Part) (words : ℕ) (buffer : List ℕ) : Type 0 where
  pub inside : p.offset + p.size ≤ length file
  pub few : p.count ≤ max_entries
  pub room : words * p.count ≤ length buffer

-- so do both palettes of a plane that is present
pub record PlaneFits (file : List ℕ) (ends sels : Part) (words : ℕ) (b₁ b₂ : List ℕ) : Type 0 where
  pub short : length file < too_long
  pub first : 0 < ends.count → Fits file ends 1 b₁
  pub second : 0 < ends.count → Fits file sels words b₂

-- ---- what it leaves

-- the opening goes on as `rest` says where r has no refusal; else it ends here, with all four buffers zero
abbrev pub settled : Palettes → Result ⊤ Fault → Opening → Opening
settled lent (Ok x) rest = rest
settled lent (Err e) rest = shut (number_of e.refusal) e.at (zeroed lent)

-- the two palettes of a plane, and what comes after them
abbrev pub plane_in : List ℕ → Palettes → Part → Part → (ℕ → Reading (List ℕ)) → (ℕ → Reading (List ℕ)) → List ℕ → List ℕ → (List ℕ → List ℕ → Opening) → Opening
plane_in file lent ends sels m₁ m₂ b₁ b₂ k =
    palette_in file lent (present ends) ends m₁ b₁ λ x. palette_in file lent (present ends) sels m₂ b₂ λ y. k x y

-- the four palettes, and what comes after them
unfoldable pub palettes_in : List ℕ → Palettes → Header → (Palettes → Opening) → Opening
palettes_in file lent h k =
    plane_in file lent h.color_endpoints h.color_selectors color_endpoints color_selectors lent.color_ends lent.color_sels λ ce cs.
    plane_in file lent h.alpha_endpoints h.alpha_selectors alpha_endpoints alpha_selectors lent.alpha_ends lent.alpha_sels λ ae al.
    k (lent_of ce cs ae al)

-- r tells how a plane's palettes ended; where it has no refusal, they left a₁ and a₂ in the buffers
pub record PlaneEnds (file : List ℕ) (ends sels : Part) (m₁ m₂ : ℕ → Reading (List ℕ)) (b₁ b₂ a₁ a₂ : List ℕ) (r : Result ⊤ Fault) : Type 0 where
  pub same : (lent : Palettes) (k : List ℕ → List ℕ → Opening) → plane_in file lent ends sels m₁ m₂ b₁ b₂ k ≡ settled lent r (k a₁ a₂)

-- r tells how the four palettes ended
pub record PalettesEnd (file : List ℕ) (h : Header) (lent after : Palettes) (r : Result ⊤ Fault) : Type 0 where
  pub same : (k : Palettes → Opening) → palettes_in file lent h k ≡ settled lent r (k after)
