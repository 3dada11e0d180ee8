-- What a DDS file is, after Microsoft's description of DDS_HEADER and DDS_PIXELFORMAT.
pub mod Header
