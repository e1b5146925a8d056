mod Previewing
mod ReadingCurve
