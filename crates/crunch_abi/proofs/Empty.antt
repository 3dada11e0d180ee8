-- What a derived default is: the empty header, and no counts.
use Prim.Native.Nat.{ℕ, ◌<◌}
use mathlib.Core.List.{List}
use mathlib.Core.Path.{◌≡◌, sym, ◌∙◌}
use native.Mathlib.Omega.{arith}
use lib.ListN.{replicate, length-replicate, get_or-replicate}
use lib.Seq.{ext_get_or}
use Rattle.std.specs.Array.{AllOfLen}
use Rattle.crn_format.specs.Look.{empty_part, empty_header}
use Rattle.crn_format.specs.declared.Part.{Part}
use Rattle.crn_format.specs.declared.Header.{Header}
use Rattle.crn_formats.specs.declared.records.Counts.{Counts}
use Rattle.crn_opening.specs.SentTables.{no_counts}

abbrev Empty : Part → Type 0
Empty p = (p.offset ≡ 0) × ((p.size ≡ 0) × (p.count ≡ 0))

part_empty : (p : Part) → Empty p → p ≡ empty_part
part_empty p (o, (s, c)) = rw (o, s, c)

zeros : (xs : List ℕ) (n : ℕ) → AllOfLen (λ x. x ≡ 0) xs n → xs ≡ replicate n 0
zeros xs n a =
    ext_get_or 0 xs (replicate n 0) (a.long ∙ sym (length-replicate n 0))
    (λ i h. let k : i < n = omega (arith, a.long) in a.at i 0 k ∙ sym (get_or-replicate n i 0 0 k))

pub header_empty : (h : Header)
    → (h.header_size ≡ 0) × ((h.header_crc16 ≡ 0) × ((h.data_size ≡ 0) × ((h.data_crc16 ≡ 0) × ((h.width ≡ 0) × ((h.height ≡ 0)
    × ((h.levels ≡ 0) × ((h.faces ≡ 0) × ((h.format ≡ 0) × ((h.flags ≡ 0) × ((h.reserved ≡ 0) × ((h.userdata0 ≡ 0) × ((h.userdata1 ≡ 0)
    × (Empty h.color_endpoints × (Empty h.color_selectors × (Empty h.alpha_endpoints × (Empty h.alpha_selectors
    × ((h.tables_size ≡ 0) × ((h.tables_offset ≡ 0) × AllOfLen (λ x. x ≡ 0) h.level_offsets 13))))))))))))))))))
    → h ≡ empty_header
header_empty h (a, (b, (c, (d, (e, (f, (g, (i, (j, (k, (l, (m, (n, (o, (p, (q, (r, (s, (t, u))))))))))))))))))) =
    let o' = part_empty h.color_endpoints o in
    let p' = part_empty h.color_selectors p in
    let q' = part_empty h.alpha_endpoints q in
    let r' = part_empty h.alpha_selectors r in
    let u' = zeros h.level_offsets 13 u in
    rw (a, b, c, d, e, f, g, i, j, k, l, m, n, o', p', q', r', s, t, u')

pub no_counts_empty : (n : Counts)
    → (n.chunk ≡ 0) × ((n.color_ends ≡ 0) × ((n.color_sels ≡ 0) × ((n.alpha_ends ≡ 0) × (n.alpha_sels ≡ 0)))) → n ≡ no_counts
no_counts_empty n (a, (b, (c, (d, e)))) = rw (a, b, c, d, e)
