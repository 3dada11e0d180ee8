-- What a container is that was written, and what a refused writing leaves; of a DDS file by its name.
pub mod Standing
pub mod Dds
