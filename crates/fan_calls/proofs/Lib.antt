mod Deeper
mod Walking
