mod Asked
mod SameGrades
