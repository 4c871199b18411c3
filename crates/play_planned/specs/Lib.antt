pub mod Vsync
