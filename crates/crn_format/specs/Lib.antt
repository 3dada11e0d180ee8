-- What a CRN file means. The modules follow document 01: read them from top to bottom.
pub mod Choice
pub mod Limits
pub mod Refusals
pub mod Bits
pub mod Codes
pub mod Reading
pub mod Script
pub mod Tables
pub mod Palettes
pub mod Header
pub mod Look
pub mod Opening
pub mod Loading
pub mod Level
pub mod Grid
pub mod Unpacking
