mod Accepted
mod Told
