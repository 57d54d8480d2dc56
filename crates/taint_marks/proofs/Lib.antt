mod MarkLaws
mod CalmLaws
mod HeldLaws
mod StandsLaws
