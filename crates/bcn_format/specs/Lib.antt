-- What blocks mean as texels (Khronos Data Format Specification, S3TC and RGTC: BC1 with alpha, BC3, BC4 and BC5, unsigned, without sRGB).
pub mod Channels
pub mod Blocks
pub mod Picture
pub mod Packed
