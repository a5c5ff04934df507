mod FirstExceptions
mod GrowingSizes
mod ReadingWithin
