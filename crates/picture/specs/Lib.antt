-- A picture's surfaces, their places in a container, and writing it there.
pub mod Kinds
pub mod Surfaces
pub mod Words
pub mod Writing
pub mod Answers
