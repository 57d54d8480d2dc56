mod FillLaws
mod FourLaws
pub mod LeastLaws
pub mod PaintLaws
pub mod SizeLaws
mod WordLaws
