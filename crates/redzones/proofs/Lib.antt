mod UseLaws
mod StandsLaws
