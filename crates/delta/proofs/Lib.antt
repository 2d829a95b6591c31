-- Laws of images, and of Delta as a whole.
pub mod Images
pub mod Pulling
