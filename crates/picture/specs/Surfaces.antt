-- The surfaces of a picture: a level of a face, its blocks close together. And where a container has them.
use Rattle.std.specs.Prelude.{ℕ, zero, suc, ◌+◌, ◌*◌}
use Rattle.crn_format.specs.Header.{kind_of, block_bytes}
use Rattle.crn_format.specs.Grid.{pixels, blocks}
use Rattle.crn_format.specs.declared.Header.{Header}
use Rattle.picture.specs.declared.Picture.{Picture}

abbrev pub picture_of : Header → Picture
picture_of h = record { format = h.format; width = h.width; height = h.height; levels = h.levels; faces = h.faces }

-- the bytes of level l of one face
unfoldable pub surface : Picture → ℕ → ℕ
surface p l = blocks (pixels p.height l) * (blocks (pixels p.width l) * block_bytes (kind_of p.format))

-- of the levels below n
unfoldable pub chain_to : Picture → ℕ → ℕ
chain_to p zero = 0
chain_to p (suc n) = chain_to p n + surface p n

-- of all levels of one face
abbrev pub chain : Picture → ℕ
chain p = chain_to p p.levels

-- where the first face of level l begins, how far it is from a face to the next there, and how many bytes the whole has
pub record Plan : Type 0 where
  pub from : ℕ → ℕ
  pub step : ℕ → ℕ
  pub total : ℕ

-- where level l of face f begins
abbrev pub place_in : Plan → ℕ → ℕ → ℕ
place_in pl f l = pl.from l + f * pl.step l

-- faces outermost, each with its levels, after a head of so many bytes
abbrev pub by_face : ℕ → Picture → Plan
by_face head p = record { from = λ l. head + chain_to p l; step = λ l. chain p; total = head + p.faces * chain p }
