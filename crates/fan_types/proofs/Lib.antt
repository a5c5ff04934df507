mod Accepting
mod Converting
mod Numbers
mod OpenTypes
mod Statuses
